-- Each kind of command: its parts can be emitted, and its code is what was emitted. Assumes nothing.
use Rattle.std.proofs.Common.{◌≡◌, ℕ, suc, ◌+◌, ◌<◌, ◌≤◌, true, List, [], ◌∷◌, ◌++◌, get_or, set, Some, sym, refl, ap, ◌∙◌, subst, arith}
use Rattle.tosca.specs.declared.table.Entry.{Entry}
use Rattle.tosca.specs.declared.table.Node.TheVariants.{Skip, Assign, Seq, Choice, Loop, Input, Output}
use Rattle.tosca.specs.Table.{blank, node}
use Rattle.tosca.specs.Trees.{Cmd, assign, seq, choice, loop, input, output}
use Rattle.tosca.specs.Types.{Types}
use Rattle.tosca.specs.Decode.{expr_at, cmd_at}
use Rattle.tosca.specs.Opens.{sort, is_expr, is_cmd}
use Rattle.draft.specs.Forming.{is_formed}
use Rattle.draft.proofs.Facts.{assign_fact, seq_fact, choice_fact, loop_fact, output_fact, cmd_at_skip, cmd_at_assign, cmd_at_seq, cmd_at_choice, cmd_at_loop, cmd_at_input, cmd_at_output}
use Rattle.aida.specs.declared.instructions.Instruction.{Instruction}
use Rattle.aida.specs.declared.instructions.Instruction.TheVariants.{Store, Output as Send, Jump, Goto}
use Rattle.aida.specs.Templates.{coded, expr_length, expr_code, cmd_length, input_by, cmd_code}
use Rattle.aida.proofs.Codes.{length_expr_code, length_cmd_code}
use Rattle.code.specs.declared.table.CodeEntry.{CodeEntry}
use Rattle.code.specs.CodeTable.{code_entry}
use Rattle.agreement.specs.Premises.{ExprFits, CmdFits}
use Rattle.translator.specs.declared.emitter.Emitter.{Emitter}
use Rattle.translator.specs.Emitting.{Stores, Emitted, ExprReady, CmdReady}
use Rattle.translator.proofs.Stores.{joined, filled, as_code}

module _ (t : List Entry) (formed : is_formed t ≡ true) (ty : Types) (w : Emitter) {n : ℕ} (r : CmdReady t n w.next) where
  long : {b : Cmd ℕ} → cmd_at t n ≡ b → w.next + cmd_length b ≤ 2048
  long is = subst (λ (b : Cmd ℕ). w.next + cmd_length b ≤ 2048) is r.short

  fitted : {b : Cmd ℕ} → cmd_at t n ≡ b → CmdFits b
  fitted is = subst CmdFits is r.fitting

  value_ready : (k : ℕ) → k < n → sort (node (get_or t k blank)) ≡ is_expr → ExprFits (expr_at t k) → w.next + expr_length (expr_at t k) ≤ 2048 → ExprReady t k 64 w.next
  value_ready k lt is f le = record { below = omega (arith, lt, r.below); is = is; names = f.0; cells = omega (arith, f.1); short = le }

  part_ready : (k p : ℕ) → k < n → sort (node (get_or t k blank)) ≡ is_cmd → CmdFits (cmd_at t k) → p + cmd_length (cmd_at t k) ≤ 2048 → CmdReady t k p
  part_ready k p lt is f le = record { below = omega (arith, lt, r.below); is = is; fitting = f; short = le }

  pub skip_done : node (get_or t n blank) ≡ Some Skip → Emitted w (cmd_code ty w.next (cmd_at t n)) w
  unfolding cmd_code
  skip_done e =
      let none : Emitted w [] w = record { table = refl; next = omega arith; lent = refl } in
      as_code (ap (cmd_code ty w.next) (sym (cmd_at_skip t formed n r.below e))) none

  module _ {x a : ℕ} (e : node (get_or t n blank) ≡ Some (Assign x a)) where
    is_assign : cmd_at t n ≡ assign n x (expr_at t a)
    is_assign = cmd_at_assign t formed n r.below e

    pub assign_value : ExprReady t a 64 w.next
    unfolding cmd_length
    assign_value =
        let f = assign_fact t formed n r.below e in
        value_ready a f.1 f.2 (fitted is_assign).1 (omega (arith, long is_assign))

    pub assign_room : {w₁ : Emitter} → Emitted w (expr_code 64 (expr_at t a)) w₁ → w₁.next < 2048
    unfolding cmd_length
    assign_room h = omega (arith, h.next, length_expr_code 64 (expr_at t a), long is_assign)

    pub assign_done : {w₁ w₂ : Emitter} → Emitted w (expr_code 64 (expr_at t a)) w₁ → Emitted w₁ (coded n (Store x) ∷ []) w₂ → Emitted w (cmd_code ty w.next (cmd_at t n)) w₂
    unfolding cmd_code
    assign_done h k = as_code (ap (cmd_code ty w.next) (sym is_assign)) (joined h k)

  module _ {a : ℕ} (e : node (get_or t n blank) ≡ Some (Output a)) where
    is_output : cmd_at t n ≡ output n (expr_at t a)
    is_output = cmd_at_output t formed n r.below e

    pub output_value : ExprReady t a 64 w.next
    unfolding cmd_length
    output_value =
        let f = output_fact t formed n r.below e in
        value_ready a f.0 f.1 (fitted is_output) (omega (arith, long is_output))

    pub output_room : {w₁ : Emitter} → Emitted w (expr_code 64 (expr_at t a)) w₁ → w₁.next < 2048
    unfolding cmd_length
    output_room h = omega (arith, h.next, length_expr_code 64 (expr_at t a), long is_output)

    pub output_done : {w₁ w₂ : Emitter} → Emitted w (expr_code 64 (expr_at t a)) w₁ → Emitted w₁ (coded n Send ∷ []) w₂ → Emitted w (cmd_code ty w.next (cmd_at t n)) w₂
    unfolding cmd_code
    output_done h k = as_code (ap (cmd_code ty w.next) (sym is_output)) (joined h k)

  module _ {x : ℕ} (e : node (get_or t n blank) ≡ Some (Input x)) where
    is_input : cmd_at t n ≡ input n x
    is_input = cmd_at_input t formed n r.below e

    pub input_name : x < 64
    input_name = fitted is_input

    pub input_room : w.next < 2047
    unfolding cmd_length
    input_room = omega (arith, long is_input)

    pub input_done : {i : Instruction} {w₁ w₂ : Emitter} → i ≡ input_by (ty x) → Emitted w (coded n i ∷ []) w₁ → Emitted w₁ (coded n (Store x) ∷ []) w₂ → Emitted w (cmd_code ty w.next (cmd_at t n)) w₂
    unfolding cmd_code
    input_done ei h k =
        let first = as_code (ap (λ (i : Instruction). coded n i ∷ []) ei) h in
        as_code (ap (cmd_code ty w.next) (sym is_input)) (joined first k)

  module _ {a b : ℕ} (e : node (get_or t n blank) ≡ Some (Seq a b)) where
    is_seq : cmd_at t n ≡ seq n (cmd_at t a) (cmd_at t b)
    is_seq = cmd_at_seq t formed n r.below e

    pub seq_first : (a < n) × CmdReady t a w.next
    unfolding cmd_length
    seq_first =
        let f = seq_fact t formed n r.below e in
        (f.0, part_ready a w.next f.0 f.1 (fitted is_seq).0 (omega (arith, long is_seq)))

    module _ {w₁ : Emitter} (h : Emitted w (cmd_code ty w.next (cmd_at t a)) w₁) where
      after_first : w₁.next ≡ w.next + cmd_length (cmd_at t a)
      after_first = omega (arith, h.next, length_cmd_code ty w.next (cmd_at t a))

      pub seq_second : (b < n) × CmdReady t b w₁.next
      unfolding cmd_length
      seq_second =
          let f = seq_fact t formed n r.below e in
          (f.2, part_ready b w₁.next f.2 f.3 (fitted is_seq).1 (omega (arith, after_first, long is_seq)))

      pub seq_done : {w₂ : Emitter} → Emitted w₁ (cmd_code ty w₁.next (cmd_at t b)) w₂ → Emitted w (cmd_code ty w.next (cmd_at t n)) w₂
      unfolding cmd_code
      seq_done k =
          let second = as_code (ap (λ (i : ℕ). cmd_code ty i (cmd_at t b)) after_first) k in
          as_code (ap (cmd_code ty w.next) (sym is_seq)) (joined h second)

  -- a jump is left out after the test, and a goto after the first branch
  module _ {a b c : ℕ} (e : node (get_or t n blank) ≡ Some (Choice a b c)) where
    is_choice : cmd_at t n ≡ choice n (expr_at t a) (cmd_at t b) (cmd_at t c)
    is_choice = cmd_at_choice t formed n r.below e

    total : w.next + (expr_length (expr_at t a) + suc (cmd_length (cmd_at t b) + suc (cmd_length (cmd_at t c)))) ≤ 2048
    unfolding cmd_length
    total = long is_choice

    pub choice_test : ExprReady t a 64 w.next
    choice_test =
        let f = choice_fact t formed n r.below e in
        value_ready a f.0 f.1 (fitted is_choice).0 (omega (arith, total))

    module _ {w₁ : Emitter} (h : Emitted w (expr_code 64 (expr_at t a)) w₁) where
      after_test : w₁.next ≡ w.next + expr_length (expr_at t a)
      after_test = omega (arith, h.next, length_expr_code 64 (expr_at t a))

      pub choice_jump : w₁.next < 2048
      choice_jump = omega (arith, after_test, total)

      module _ {w₂ : Emitter} (jump : Stores w₁ w₁.next [] 1 w₂) where
        pub choice_then : (b < n) × CmdReady t b w₂.next
        choice_then =
            let f = choice_fact t formed n r.below e in
            (f.2, part_ready b w₂.next f.2 f.3 (fitted is_choice).1 (omega (arith, after_test, jump.next, total)))

        module _ {w₃ : Emitter} (k : Emitted w₂ (cmd_code ty w₂.next (cmd_at t b)) w₃) where
          after_then : w₃.next ≡ suc (w.next + expr_length (expr_at t a)) + cmd_length (cmd_at t b)
          after_then = omega (arith, after_test, jump.next, k.next, length_cmd_code ty w₂.next (cmd_at t b))

          pub choice_goto : w₃.next < 2048
          choice_goto = omega (arith, after_then, total)

          module _ {w₄ w₅ : Emitter} {j : ℕ} (goto : Stores w₃ w₃.next [] 1 w₄) (lands : Stores w₄ j (coded n (Jump w₄.next) ∷ []) 0 w₅) where
            pub choice_else : (c < n) × CmdReady t c w₅.next
            choice_else =
                let f = choice_fact t formed n r.below e in
                (f.4, part_ready c w₅.next f.4 f.5 (fitted is_choice).2 (omega (arith, after_then, goto.next, lands.next, total)))

            module _ {w₆ : Emitter} (i : Emitted w₅ (cmd_code ty w₅.next (cmd_at t c)) w₆) where
              choice_code : expr_code 64 (expr_at t a) ++ coded n (Jump w₄.next) ∷ (cmd_code ty w₂.next (cmd_at t b) ++ coded n (Goto w₆.next) ∷ cmd_code ty w₅.next (cmd_at t c)) ≡ cmd_code ty w.next (choice n (expr_at t a) (cmd_at t b) (cmd_at t c))
              unfolding cmd_code
              choice_code =
                  let then : w₂.next ≡ suc (w.next + expr_length (expr_at t a)) = omega (arith, after_test, jump.next) in
                  let else : w₄.next ≡ suc (suc (w.next + expr_length (expr_at t a)) + cmd_length (cmd_at t b)) = omega (arith, after_then, goto.next) in
                  let else_too : w₅.next ≡ suc (suc (w.next + expr_length (expr_at t a)) + cmd_length (cmd_at t b)) = omega (arith, else, lands.next) in
                  let end : w₆.next ≡ suc (suc (w.next + expr_length (expr_at t a)) + cmd_length (cmd_at t b)) + cmd_length (cmd_at t c) = omega (arith, else_too, i.next, length_cmd_code ty w₅.next (cmd_at t c)) in
                  λ z. expr_code 64 (expr_at t a) ++ coded n (Jump (else z)) ∷ (cmd_code ty (then z) (cmd_at t b) ++ coded n (Goto (end z)) ∷ cmd_code ty (else_too z) (cmd_at t c))

              pub choice_done : {g : ℕ} {w₇ : Emitter} → j ≡ w₁.next → g ≡ w₃.next → Stores w₆ g (coded n (Goto w₆.next) ∷ []) 0 w₇ → Emitted w (cmd_code ty w.next (cmd_at t n)) w₇
              choice_done ej eg ends =
                  let half : Emitter = record { table = w₅.table; next = w₃.next } in
                  let jumps : Stores w₃ j (coded n (Jump w₄.next) ∷ []) 0 half = record {
                    table = lands.table ∙ ap (λ (u : List CodeEntry). set u j (code_entry (coded n (Jump w₄.next)))) goto.table;
                    next = omega arith;
                    lent = lands.lent ∙ goto.lent;
                  } in
                  let skips : Stores half w₃.next [] 1 w₅ = record { table = refl; next = omega (arith, goto.next, lands.next); lent = refl } in
                  let first : Emitted w₁ (coded n (Jump w₄.next) ∷ cmd_code ty w₂.next (cmd_at t b)) half = filled (coded n (Jump w₄.next)) jump ej k jumps in
                  let second = filled {d = half} (coded n (Goto w₆.next)) skips eg i ends in
                  as_code (choice_code ∙ ap (cmd_code ty w.next) (sym is_choice)) (joined h (joined first second))

  -- a jump is left out after the test
  module _ {a b : ℕ} (e : node (get_or t n blank) ≡ Some (Loop a b)) where
    is_loop : cmd_at t n ≡ loop n (expr_at t a) (cmd_at t b)
    is_loop = cmd_at_loop t formed n r.below e

    whole : w.next + (expr_length (expr_at t a) + suc (cmd_length (cmd_at t b) + 1)) ≤ 2048
    unfolding cmd_length
    whole = long is_loop

    pub loop_test : ExprReady t a 64 w.next
    loop_test =
        let f = loop_fact t formed n r.below e in
        value_ready a f.0 f.1 (fitted is_loop).0 (omega (arith, whole))

    module _ {w₁ : Emitter} (h : Emitted w (expr_code 64 (expr_at t a)) w₁) where
      tested : w₁.next ≡ w.next + expr_length (expr_at t a)
      tested = omega (arith, h.next, length_expr_code 64 (expr_at t a))

      pub loop_jump : w₁.next < 2048
      loop_jump = omega (arith, tested, whole)

      module _ {w₂ : Emitter} (jump : Stores w₁ w₁.next [] 1 w₂) where
        pub loop_body : (b < n) × CmdReady t b w₂.next
        loop_body =
            let f = loop_fact t formed n r.below e in
            (f.2, part_ready b w₂.next f.2 f.3 (fitted is_loop).1 (omega (arith, tested, jump.next, whole)))

        module _ {w₃ : Emitter} (k : Emitted w₂ (cmd_code ty w₂.next (cmd_at t b)) w₃) where
          after_body : w₃.next ≡ suc (w.next + expr_length (expr_at t a)) + cmd_length (cmd_at t b)
          after_body = omega (arith, tested, jump.next, k.next, length_cmd_code ty w₂.next (cmd_at t b))

          pub loop_back : w₃.next < 2048
          loop_back = omega (arith, after_body, whole)

          module _ {w₄ : Emitter} (i : Emitted w₃ (coded n (Goto w.next) ∷ []) w₄) where
            loop_code : expr_code 64 (expr_at t a) ++ coded n (Jump w₄.next) ∷ (cmd_code ty w₂.next (cmd_at t b) ++ coded n (Goto w.next) ∷ []) ≡ cmd_code ty w.next (loop n (expr_at t a) (cmd_at t b))
            unfolding cmd_code
            loop_code =
                let body : w₂.next ≡ suc (w.next + expr_length (expr_at t a)) = omega (arith, tested, jump.next) in
                let out : w₄.next ≡ suc (suc (w.next + expr_length (expr_at t a)) + cmd_length (cmd_at t b)) = omega (arith, after_body, i.next) in
                λ z. expr_code 64 (expr_at t a) ++ coded n (Jump (out z)) ∷ (cmd_code ty (body z) (cmd_at t b) ++ coded n (Goto w.next) ∷ [])

            pub loop_done : {j : ℕ} {w₅ : Emitter} → j ≡ w₁.next → Stores w₄ j (coded n (Jump w₄.next) ∷ []) 0 w₅ → Emitted w (cmd_code ty w.next (cmd_at t n)) w₅
            loop_done ej lands =
                let rest = filled (coded n (Jump w₄.next)) jump ej (joined k i) lands in
                as_code (loop_code ∙ ap (cmd_code ty w.next) (sym is_loop)) (joined h rest)
