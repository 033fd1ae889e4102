-- Each kind of expression: its parts can be emitted, and its code is what was emitted. Assumes nothing.
use Rattle.std.proofs.Common.{◌≡◌, ℕ, suc, ◌+◌, ◌<◌, ◌≤◌, true, List, [], ◌∷◌, get_or, ℤ, Some, sym, ap, ◌∙◌, subst, ap₂, arith}
use Rattle.tosca.specs.declared.operators.Value.{Value}
use Rattle.tosca.specs.declared.operators.Unary.{Unary}
use Rattle.tosca.specs.declared.operators.Binary.{Binary}
use Rattle.tosca.specs.declared.table.Entry.{Entry}
use Rattle.tosca.specs.declared.table.Node.TheVariants.{Const, Var, Uny, Bin}
use Rattle.tosca.specs.Table.{blank, node}
use Rattle.tosca.specs.Trees.{Expr, uny, bin}
use Rattle.tosca.specs.Decode.{expr_at}
use Rattle.tosca.specs.Opens.{sort}
use Rattle.draft.specs.Forming.{is_formed}
use Rattle.draft.proofs.Facts.{uny_fact, bin_fact, expr_at_const, expr_at_var, expr_at_uny, expr_at_bin}
use Rattle.statics.specs.Temporaries.{need}
use Rattle.aida.specs.declared.instructions.Instruction.TheVariants.{LoadConst, LoadVar, Store, UnaryOp, BinaryOp}
use Rattle.aida.specs.Templates.{coded, expr_length, expr_code}
use Rattle.aida.specs.Values.{number}
use Rattle.aida.proofs.Codes.{length_expr_code}
use Rattle.agreement.specs.Premises.{ExprNames}
use Rattle.translator.specs.declared.emitter.Emitter.{Emitter}
use Rattle.translator.specs.Emitting.{Emitted, ExprReady}
use Rattle.translator.proofs.Stores.{joined, as_code}

module _ (t : List Entry) (formed : is_formed t ≡ true) (w : Emitter) {n c : ℕ} (r : ExprReady t n c w.next) where
  long : {e : Expr ℕ} → expr_at t n ≡ e → w.next + expr_length e ≤ 2048
  long is = subst (λ (e : Expr ℕ). w.next + expr_length e ≤ 2048) is r.short

  high : {e : Expr ℕ} → expr_at t n ≡ e → c + need e ≤ 96
  high is = subst (λ (e : Expr ℕ). c + need e ≤ 96) is r.cells

  named : {e : Expr ℕ} → expr_at t n ≡ e → ExprNames e
  named is = subst ExprNames is r.names

  pub const_room : {v : Value} → node (get_or t n blank) ≡ Some (Const v) → w.next < 2048
  unfolding expr_length
  const_room e = omega (arith, long (expr_at_const t formed n r.below e))

  pub const_done : {v : Value} {z : ℤ} {w₁ : Emitter} → node (get_or t n blank) ≡ Some (Const v) → Emitted w (coded n (LoadConst z) ∷ []) w₁ → z ≡ number v → Emitted w (expr_code c (expr_at t n)) w₁
  unfolding expr_code
  const_done e h ez = as_code (ap (λ (y : ℤ). coded n (LoadConst y) ∷ []) ez ∙ ap (expr_code c) (sym (expr_at_const t formed n r.below e))) h

  pub var_room : {x : ℕ} → node (get_or t n blank) ≡ Some (Var x) → w.next < 2048
  unfolding expr_length
  var_room e = omega (arith, long (expr_at_var t formed n r.below e))

  pub var_done : {x : ℕ} {w₁ : Emitter} → node (get_or t n blank) ≡ Some (Var x) → Emitted w (coded n (LoadVar x) ∷ []) w₁ → Emitted w (expr_code c (expr_at t n)) w₁
  unfolding expr_code
  var_done e h = as_code (ap (expr_code c) (sym (expr_at_var t formed n r.below e))) h

  module _ {o : Unary} {a : ℕ} (e : node (get_or t n blank) ≡ Some (Uny o a)) where
    is_uny : expr_at t n ≡ uny n o (expr_at t a)
    is_uny = expr_at_uny t formed n r.below e

    pub uny_part : (a < n) × ExprReady t a c w.next
    unfolding expr_length need
    uny_part =
        let f = uny_fact t formed n r.below e in
        (f.0, record { below = omega (arith, f.0, r.below); is = f.1; names = named is_uny; cells = high is_uny; short = omega (arith, long is_uny) })

    pub uny_room : {w₁ : Emitter} → Emitted w (expr_code c (expr_at t a)) w₁ → w₁.next < 2048
    unfolding expr_length
    uny_room h = omega (arith, h.next, length_expr_code c (expr_at t a), long is_uny)

    pub uny_done : {w₁ w₂ : Emitter} → Emitted w (expr_code c (expr_at t a)) w₁ → Emitted w₁ (coded n (UnaryOp o) ∷ []) w₂ → Emitted w (expr_code c (expr_at t n)) w₂
    unfolding expr_code
    uny_done h k = as_code (ap (expr_code c) (sym is_uny)) (joined h k)

  -- the operands as the program holds them, and the cell after c
  module _ {a : ℕ} {o : Binary} {b : ℕ} (e : node (get_or t n blank) ≡ Some (Bin a o b)) {first last : ℕ} (is-first : first ≡ b) (is_last : last ≡ a) where
    is_bin : expr_at t n ≡ bin n (expr_at t a) o (expr_at t b)
    is_bin = expr_at_bin t formed n r.below e

    as_held : expr_at t n ≡ bin n (expr_at t last) o (expr_at t first)
    as_held = is_bin ∙ ap₂ (λ (x y : ℕ). bin n (expr_at t x) o (expr_at t y)) (sym is_last) (sym is-first)

    pub bin_cell : c < 96
    unfolding need
    bin_cell = omega (arith, high as_held)

    pub bin_first : (first < n) × ExprReady t first c w.next
    unfolding expr_length need
    bin_first =
        let f = bin_fact t formed n r.below e in (
          omega (arith, f.2, is-first),
          record {
            below = omega (arith, f.2, r.below, is-first);
            is = ap (λ (k : ℕ). sort (node (get_or t k blank))) is-first ∙ f.3;
            names = (named as_held).1;
            cells = omega (arith, high as_held);
            short = omega (arith, long as_held);
          },
        )

    pub bin_keep : {w₁ : Emitter} → Emitted w (expr_code c (expr_at t first)) w₁ → w₁.next < 2048
    unfolding expr_length
    bin_keep h = omega (arith, h.next, length_expr_code c (expr_at t first), long as_held)

    module _ {w₁ w₂ : Emitter} {d : ℕ} (h : Emitted w (expr_code c (expr_at t first)) w₁) (k : Emitted w₁ (coded n (Store c) ∷ []) w₂) (is-next : d ≡ suc c) where
      pub bin_last : (last < n) × ExprReady t last d w₂.next
      unfolding expr_length need
      bin_last =
          let f = bin_fact t formed n r.below e in (
            omega (arith, f.0, is_last),
            record {
              below = omega (arith, f.0, r.below, is_last);
              is = ap (λ (k : ℕ). sort (node (get_or t k blank))) is_last ∙ f.1;
              names = (named as_held).0;
              cells = omega (arith, high as_held);
              short = omega (arith, long as_held, h.next, k.next, length_expr_code c (expr_at t first));
            },
          )

      module _ {w₃ : Emitter} (j : Emitted w₂ (expr_code d (expr_at t last)) w₃) where
        pub bin_room : w₃.next < 2048
        unfolding expr_length
        bin_room = omega (arith, h.next, k.next, j.next, length_expr_code c (expr_at t first), length_expr_code d (expr_at t last), long as_held)

        pub bin_done : {w₄ : Emitter} → Emitted w₃ (coded n (BinaryOp o c) ∷ []) w₄ → Emitted w (expr_code c (expr_at t n)) w₄
        unfolding expr_code
        bin_done i =
            let left : Emitted w₂ (expr_code (suc c) (expr_at t last)) w₃ = as_code (ap (λ (x : ℕ). expr_code x (expr_at t last)) is-next) j in
            as_code (ap (expr_code c) (sym as_held)) (joined h (joined k (joined left i)))
