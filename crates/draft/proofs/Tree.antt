-- A formed table lists one tree, the one that it is decoded to. Assumes nothing.
use Rattle.std.proofs.Common.{◌≡◌, ℕ, zero, suc, ◌+◌, ◌-◌, ◌<◌, ◌≤◌, true, ◌⊎◌, List, [], ◌∷◌, length, get_or, Some, None, Option, sym, refl, ap, ◌∙◌, subst, inl, inr, arith}
use Rattle.std.proofs.lemmas.List.{get_or_past}
use Rattle.std.proofs.lemmas.Bool.{cases_lt}
use Rattle.tosca.specs.declared.operators.Value.{Value}
use Rattle.tosca.specs.declared.operators.Unary.{Unary}
use Rattle.tosca.specs.declared.operators.Binary.{Binary}
use Rattle.tosca.specs.declared.table.Entry.{Entry}
use Rattle.tosca.specs.declared.table.Node.{Node}
use Rattle.tosca.specs.declared.table.Node.TheVariants.{Decl, Const, Var, Uny, Bin, Skip, Assign, Seq, Choice, Loop, Input, Output, Program}
use Rattle.tosca.specs.Table.{blank, node}
use Rattle.tosca.specs.Trees.{Expr, const, var, uny, bin, Cmd, skip, assign, seq, choice, loop, input, output}
use Rattle.tosca.specs.Trees as tree
use Rattle.tosca.specs.Decode.{expr_of, expr_at, cmd_of, cmd_at, program_of}
use Rattle.tosca.specs.Opens.{Sort, is_decl, is_expr, is_cmd, is_program, is_none, sort, Part, parts}
use Rattle.tosca.proofs.Decoding.{expr_step, cmd_step}
use Rattle.draft.specs.Forming.{is_formed}
use Rattle.draft.specs.Subtrees.{expr_label, cmd_label, InExpr, ExprIn, CmdIn}
use Rattle.draft.specs.OneTree.{at, ListsExpr, ListsCmd, Lists, OneTree}
use Rattle.draft.proofs.Facts.{sorts_apart, Stand, Occurs, stand_fact, expr_part, cmd_part, uny_fact, bin_fact, assign_fact, seq_fact, choice_fact, loop_fact, output_fact, program_fact, some_node}
use Rattle.draft.proofs.Facts.{expr_at_const, expr_at_var, expr_at_uny, expr_at_bin, cmd_at_skip, cmd_at_assign, cmd_at_seq, cmd_at_choice, cmd_at_loop, cmd_at_input, cmd_at_output, not_empty, end_below, end_program, program_at}

-- the label of a decoded tree is its entry's number
label_of : (n : ℕ) (f : ℕ → Expr ℕ) (o : Option Node) → expr_label (expr_of n f o) ≡ n
label_of n f (Some (Const v)) = refl
label_of n f (Some (Var x)) = refl
label_of n f (Some (Uny o a)) = refl
label_of n f (Some (Bin a o b)) = refl
label_of n f (Some (Decl x y)) = refl
label_of n f (Some Skip) = refl
label_of n f (Some (Assign x a)) = refl
label_of n f (Some (Seq a b)) = refl
label_of n f (Some (Choice a b c)) = refl
label_of n f (Some (Loop a b)) = refl
label_of n f (Some (Input x)) = refl
label_of n f (Some (Output a)) = refl
label_of n f (Some (Program a)) = refl
label_of n f None = refl

pub expr_label_lem : (t : List Entry) (n : ℕ) → expr_label (expr_at t n) ≡ n
expr_label_lem t n = ap expr_label (expr_step t n) ∙ label_of n (expr_at t) (node (get_or t n blank))

cmd_label_of : (n : ℕ) (v : ℕ → Expr ℕ) (f : ℕ → Cmd ℕ) (o : Option Node) → cmd_label (cmd_of n v f o) ≡ n
cmd_label_of n v f (Some Skip) = refl
cmd_label_of n v f (Some (Assign x a)) = refl
cmd_label_of n v f (Some (Seq a b)) = refl
cmd_label_of n v f (Some (Choice a b c)) = refl
cmd_label_of n v f (Some (Loop a b)) = refl
cmd_label_of n v f (Some (Input x)) = refl
cmd_label_of n v f (Some (Output a)) = refl
cmd_label_of n v f (Some (Decl x y)) = refl
cmd_label_of n v f (Some (Const c)) = refl
cmd_label_of n v f (Some (Var x)) = refl
cmd_label_of n v f (Some (Uny o a)) = refl
cmd_label_of n v f (Some (Bin a o b)) = refl
cmd_label_of n v f (Some (Program a)) = refl
cmd_label_of n v f None = refl

pub cmd_label_lem : (t : List Entry) (n : ℕ) → cmd_label (cmd_at t n) ≡ n
cmd_label_lem t n = ap cmd_label (cmd_step t n) ∙ cmd_label_of n (expr_at t) (cmd_at t) (node (get_or t n blank))

-- the kinds of an expression
pub record ExprCases (o : Option Node) (P : Type 0) : Type 0 where
  pub a_const : (v : Value) → o ≡ Some (Const v) → P
  pub a_var : (x : ℕ) → o ≡ Some (Var x) → P
  pub a_uny : (u : Unary) (a : ℕ) → o ≡ Some (Uny u a) → P
  pub a_bin : (a : ℕ) (b : Binary) (c : ℕ) → o ≡ Some (Bin a b c) → P

pub expr_cases : {P : Type 0} (o : Option Node) → sort o ≡ is_expr → ExprCases o P → P
expr_cases (Some (Const v)) e k = k.a_const v refl
expr_cases (Some (Var x)) e k = k.a_var x refl
expr_cases (Some (Uny o a)) e k = k.a_uny o a refl
expr_cases (Some (Bin a o b)) e k = k.a_bin a o b refl
expr_cases (Some (Decl x y)) e k = cc
expr_cases (Some Skip) e k = cc
expr_cases (Some (Assign x a)) e k = cc
expr_cases (Some (Seq a b)) e k = cc
expr_cases (Some (Choice a b c)) e k = cc
expr_cases (Some (Loop a b)) e k = cc
expr_cases (Some (Input x)) e k = cc
expr_cases (Some (Output a)) e k = cc
expr_cases (Some (Program a)) e k = cc
expr_cases None e k = cc

-- the kinds of a command
pub record CmdCases (o : Option Node) (P : Type 0) : Type 0 where
  pub a_skip : o ≡ Some Skip → P
  pub a_assign : (x a : ℕ) → o ≡ Some (Assign x a) → P
  pub a_seq : (a b : ℕ) → o ≡ Some (Seq a b) → P
  pub a_choice : (a b c : ℕ) → o ≡ Some (Choice a b c) → P
  pub a_loop : (a b : ℕ) → o ≡ Some (Loop a b) → P
  pub an_input : (x : ℕ) → o ≡ Some (Input x) → P
  pub an_output : (a : ℕ) → o ≡ Some (Output a) → P

pub cmd_cases : {P : Type 0} (o : Option Node) → sort o ≡ is_cmd → CmdCases o P → P
cmd_cases (Some Skip) e k = k.a_skip refl
cmd_cases (Some (Assign x a)) e k = k.a_assign x a refl
cmd_cases (Some (Seq a b)) e k = k.a_seq a b refl
cmd_cases (Some (Choice a b c)) e k = k.a_choice a b c refl
cmd_cases (Some (Loop a b)) e k = k.a_loop a b refl
cmd_cases (Some (Input x)) e k = k.an_input x refl
cmd_cases (Some (Output a)) e k = k.an_output a refl
cmd_cases (Some (Decl x y)) e k = cc
cmd_cases (Some (Const v)) e k = cc
cmd_cases (Some (Var x)) e k = cc
cmd_cases (Some (Uny o a)) e k = cc
cmd_cases (Some (Bin a o b)) e k = cc
cmd_cases (Some (Program a)) e k = cc
cmd_cases None e k = cc

-- a tree stands in itself, and what stands in a part stands in the whole
pub in_self : (e : Expr ℕ) → InExpr e e
in_self (const n v) = refl
in_self (var n x) = refl
in_self (uny n o e) = inl refl
in_self (bin n a o b) = inl refl

pub cmd_self : (c : Cmd ℕ) → CmdIn c c
cmd_self (skip n) = refl
cmd_self (assign n x e) = refl
cmd_self (seq n a b) = inl refl
cmd_self (choice n e a b) = inl refl
cmd_self (loop n e b) = inl refl
cmd_self (input n x) = refl
cmd_self (output n e) = refl

pub in_trans : (s u e : Expr ℕ) → InExpr u e → InExpr s u → InExpr s e
in_trans s u (const n v) q h = subst (InExpr s) q h
in_trans s u (var n x) q h = subst (InExpr s) q h
in_trans s u (uny n o e) (inl q) h = subst (InExpr s) q h
in_trans s u (uny n o e) (inr q) h = inr (in_trans s u e q h)
in_trans s u (bin n a o b) (inl q) h = subst (InExpr s) q h
in_trans s u (bin n a o b) (inr (inl q)) h = inr (inl (in_trans s u a q h))
in_trans s u (bin n a o b) (inr (inr q)) h = inr (inr (in_trans s u b q h))

pub expr_in_trans : (s u : Expr ℕ) (c : Cmd ℕ) → ExprIn u c → InExpr s u → ExprIn s c
expr_in_trans s u (skip n) q h = q
expr_in_trans s u (assign n x e) q h = in_trans s u e q h
expr_in_trans s u (seq n a b) (inl q) h = inl (expr_in_trans s u a q h)
expr_in_trans s u (seq n a b) (inr q) h = inr (expr_in_trans s u b q h)
expr_in_trans s u (choice n e a b) (inl q) h = inl (in_trans s u e q h)
expr_in_trans s u (choice n e a b) (inr (inl q)) h = inr (inl (expr_in_trans s u a q h))
expr_in_trans s u (choice n e a b) (inr (inr q)) h = inr (inr (expr_in_trans s u b q h))
expr_in_trans s u (loop n e b) (inl q) h = inl (in_trans s u e q h)
expr_in_trans s u (loop n e b) (inr q) h = inr (expr_in_trans s u b q h)
expr_in_trans s u (input n x) q h = q
expr_in_trans s u (output n e) q h = in_trans s u e q h

pub cmd_in_trans : (s u c : Cmd ℕ) → CmdIn u c → CmdIn s u → CmdIn s c
cmd_in_trans s u (skip n) q h = subst (CmdIn s) q h
cmd_in_trans s u (assign n x e) q h = subst (CmdIn s) q h
cmd_in_trans s u (seq n a b) (inl q) h = subst (CmdIn s) q h
cmd_in_trans s u (seq n a b) (inr (inl q)) h = inr (inl (cmd_in_trans s u a q h))
cmd_in_trans s u (seq n a b) (inr (inr q)) h = inr (inr (cmd_in_trans s u b q h))
cmd_in_trans s u (choice n e a b) (inl q) h = subst (CmdIn s) q h
cmd_in_trans s u (choice n e a b) (inr (inl q)) h = inr (inl (cmd_in_trans s u a q h))
cmd_in_trans s u (choice n e a b) (inr (inr q)) h = inr (inr (cmd_in_trans s u b q h))
cmd_in_trans s u (loop n e b) (inl q) h = subst (CmdIn s) q h
cmd_in_trans s u (loop n e b) (inr q) h = inr (cmd_in_trans s u b q h)
cmd_in_trans s u (input n x) q h = subst (CmdIn s) q h
cmd_in_trans s u (output n e) q h = subst (CmdIn s) q h

pub expr_in_cmd : (s : Expr ℕ) (u c : Cmd ℕ) → CmdIn u c → ExprIn s u → ExprIn s c
expr_in_cmd s u (skip n) q h = subst (ExprIn s) q h
expr_in_cmd s u (assign n x e) q h = subst (ExprIn s) q h
expr_in_cmd s u (seq n a b) (inl q) h = subst (ExprIn s) q h
expr_in_cmd s u (seq n a b) (inr (inl q)) h = inl (expr_in_cmd s u a q h)
expr_in_cmd s u (seq n a b) (inr (inr q)) h = inr (expr_in_cmd s u b q h)
expr_in_cmd s u (choice n e a b) (inl q) h = subst (ExprIn s) q h
expr_in_cmd s u (choice n e a b) (inr (inl q)) h = inr (inl (expr_in_cmd s u a q h))
expr_in_cmd s u (choice n e a b) (inr (inr q)) h = inr (inr (expr_in_cmd s u b q h))
expr_in_cmd s u (loop n e b) (inl q) h = subst (ExprIn s) q h
expr_in_cmd s u (loop n e b) (inr q) h = inr (expr_in_cmd s u b q h)
expr_in_cmd s u (input n x) q h = subst (ExprIn s) q h
expr_in_cmd s u (output n e) q h = subst (ExprIn s) q h

-- what a tree's entry says follows for what stands in it
module _ (t : List Entry) where
  lists_in : (s e : Expr ℕ) → InExpr s e → ListsExpr t e → ListsExpr t s
  lists_in s (const n v) q l = subst (ListsExpr t) (sym q) l
  lists_in s (var n x) q l = subst (ListsExpr t) (sym q) l
  lists_in s (uny n o e) (inl q) l = subst (ListsExpr t) (sym q) l
  lists_in s (uny n o e) (inr q) l = lists_in s e q l.1
  lists_in s (bin n a o b) (inl q) l = subst (ListsExpr t) (sym q) l
  lists_in s (bin n a o b) (inr (inl q)) l = lists_in s a q l.1
  lists_in s (bin n a o b) (inr (inr q)) l = lists_in s b q l.2

  pub lists_expr_in : (s : Expr ℕ) (c : Cmd ℕ) → ExprIn s c → ListsCmd t c → ListsExpr t s
  lists_expr_in s (skip n) q l = absurd q
  lists_expr_in s (assign n x e) q l = lists_in s e q l.1
  lists_expr_in s (seq n a b) (inl q) l = lists_expr_in s a q l.1
  lists_expr_in s (seq n a b) (inr q) l = lists_expr_in s b q l.2
  lists_expr_in s (choice n e a b) (inl q) l = lists_in s e q l.1
  lists_expr_in s (choice n e a b) (inr (inl q)) l = lists_expr_in s a q l.2
  lists_expr_in s (choice n e a b) (inr (inr q)) l = lists_expr_in s b q l.3
  lists_expr_in s (loop n e b) (inl q) l = lists_in s e q l.1
  lists_expr_in s (loop n e b) (inr q) l = lists_expr_in s b q l.2
  lists_expr_in s (input n x) q l = absurd q
  lists_expr_in s (output n e) q l = lists_in s e q l.1

  pub lists_cmd_in : (s c : Cmd ℕ) → CmdIn s c → ListsCmd t c → ListsCmd t s
  lists_cmd_in s (skip n) q l = subst (ListsCmd t) (sym q) l
  lists_cmd_in s (assign n x e) q l = subst (ListsCmd t) (sym q) l
  lists_cmd_in s (seq n a b) (inl q) l = subst (ListsCmd t) (sym q) l
  lists_cmd_in s (seq n a b) (inr (inl q)) l = lists_cmd_in s a q l.1
  lists_cmd_in s (seq n a b) (inr (inr q)) l = lists_cmd_in s b q l.2
  lists_cmd_in s (choice n e a b) (inl q) l = subst (ListsCmd t) (sym q) l
  lists_cmd_in s (choice n e a b) (inr (inl q)) l = lists_cmd_in s a q l.2
  lists_cmd_in s (choice n e a b) (inr (inr q)) l = lists_cmd_in s b q l.3
  lists_cmd_in s (loop n e b) (inl q) l = subst (ListsCmd t) (sym q) l
  lists_cmd_in s (loop n e b) (inr q) l = lists_cmd_in s b q l.2
  lists_cmd_in s (input n x) q l = subst (ListsCmd t) (sym q) l
  lists_cmd_in s (output n e) q l = subst (ListsCmd t) (sym q) l

  lists_expr_sort : (s : Expr ℕ) → ListsExpr t s → sort (at t (expr_label s)) ≡ is_expr
  lists_expr_sort (const n v) l = ap sort l
  lists_expr_sort (var n x) l = ap sort l
  lists_expr_sort (uny n o e) l = ap sort l.0
  lists_expr_sort (bin n a o b) l = ap sort l.0

  lists_cmd_sort : (s : Cmd ℕ) → ListsCmd t s → sort (at t (cmd_label s)) ≡ is_cmd
  lists_cmd_sort (skip n) l = ap sort l
  lists_cmd_sort (assign n x e) l = ap sort l.0
  lists_cmd_sort (seq n a b) l = ap sort l.0
  lists_cmd_sort (choice n e a b) l = ap sort l.0
  lists_cmd_sort (loop n e b) l = ap sort l.0
  lists_cmd_sort (input n x) l = ap sort l
  lists_cmd_sort (output n e) l = ap sort l.0

  -- an entry of a sort stands in the table
  stands_in : (n : ℕ) (s : Sort) → (is_none ≡ s → ⊥) → sort (at t n) ≡ s → n < length t
  stands_in n s apart e = by (cases_lt n (length t))
    where
      by : (n < length t) ⊎ (length t ≤ n) → n < length t
      by (inl h) = h
      by (inr h) = absurd (apart (sym (ap (λ (d : Entry). sort (node d)) (get_or_past t n blank h)) ∙ e))

  pub expr_stands : (n : ℕ) → sort (at t n) ≡ is_expr → n < length t
  expr_stands n e = stands_in n is_expr (sorts_apart is_none is_expr refl) e

  pub cmd_stands : (n : ℕ) → sort (at t n) ≡ is_cmd → n < length t
  cmd_stands n e = stands_in n is_cmd (sorts_apart is_none is_cmd refl) e

module _ (t : List Entry) (formed : is_formed t ≡ true) where
  -- the tree at an entry is listed
  lists_at_by : (f n : ℕ) → n < f → sort (at t n) ≡ is_expr → ListsExpr t (expr_at t n)
  lists_at_by zero n h e = absurd (omega arith)
  lists_at_by (suc f) n h e =
      let lt = expr_stands t n e in
      expr_cases (at t n) e (record {
        a_const = λ v q. subst (ListsExpr t) (sym (expr_at_const t formed n lt q)) q;
        a_var = λ x q. subst (ListsExpr t) (sym (expr_at_var t formed n lt q)) q;
        a_uny = λ o a q.
            let k = uny_fact t formed n lt q in
            subst (ListsExpr t) (sym (expr_at_uny t formed n lt q)) (
              q ∙ sym (ap (λ (i : ℕ). Some (Uny o i)) (expr_label_lem t a)),
              lists_at_by f a (omega (arith, k.0)) k.1,
            );
        a_bin = λ a o b q.
            let k = bin_fact t formed n lt q in
            subst (ListsExpr t) (sym (expr_at_bin t formed n lt q)) (
              q ∙ sym (λ i. Some (Bin (expr_label_lem t a i) o (expr_label_lem t b i))),
              lists_at_by f a (omega (arith, k.0)) k.1,
              lists_at_by f b (omega (arith, k.2)) k.3,
            );
      })

  pub lists_at : (n : ℕ) → sort (at t n) ≡ is_expr → ListsExpr t (expr_at t n)
  lists_at n e = lists_at_by (suc n) n (omega arith) e

  lists_cmd_by : (f n : ℕ) → n < f → sort (at t n) ≡ is_cmd → ListsCmd t (cmd_at t n)
  lists_cmd_by zero n h e = absurd (omega arith)
  lists_cmd_by (suc f) n h e =
      let lt = cmd_stands t n e in
      cmd_cases (at t n) e (record {
        a_skip = λ q. subst (ListsCmd t) (sym (cmd_at_skip t formed n lt q)) q;
        a_assign = λ x a q.
            let k = assign_fact t formed n lt q in
            subst (ListsCmd t) (sym (cmd_at_assign t formed n lt q)) (
              q ∙ sym (ap (λ (i : ℕ). Some (Assign x i)) (expr_label_lem t a)),
              lists_at a k.2,
            );
        a_seq = λ a b q.
            let k = seq_fact t formed n lt q in
            subst (ListsCmd t) (sym (cmd_at_seq t formed n lt q)) (
              q ∙ sym (λ i. Some (Seq (cmd_label_lem t a i) (cmd_label_lem t b i))),
              lists_cmd_by f a (omega (arith, k.0)) k.1,
              lists_cmd_by f b (omega (arith, k.2)) k.3,
            );
        a_choice = λ a b c q.
            let k = choice_fact t formed n lt q in
            subst (ListsCmd t) (sym (cmd_at_choice t formed n lt q)) (
              q ∙ sym (λ i. Some (Choice (expr_label_lem t a i) (cmd_label_lem t b i) (cmd_label_lem t c i))),
              lists_at a k.1,
              lists_cmd_by f b (omega (arith, k.2)) k.3,
              lists_cmd_by f c (omega (arith, k.4)) k.5,
            );
        a_loop = λ a b q.
            let k = loop_fact t formed n lt q in
            subst (ListsCmd t) (sym (cmd_at_loop t formed n lt q)) (
              q ∙ sym (λ i. Some (Loop (expr_label_lem t a i) (cmd_label_lem t b i))),
              lists_at a k.1,
              lists_cmd_by f b (omega (arith, k.2)) k.3,
            );
        an_input = λ x q. subst (ListsCmd t) (sym (cmd_at_input t formed n lt q)) q;
        an_output = λ a q.
            let k = output_fact t formed n lt q in
            subst (ListsCmd t) (sym (cmd_at_output t formed n lt q)) (
              q ∙ sym (ap (λ (i : ℕ). Some (Output i)) (expr_label_lem t a)),
              lists_at a k.1,
            );
      })

  pub lists_cmd_at : (n : ℕ) → sort (at t n) ≡ is_cmd → ListsCmd t (cmd_at t n)
  lists_cmd_at n e = lists_cmd_by (suc n) n (omega arith) e

  -- a listed tree is the one at its entry
  pub listed_is_at : (s : Expr ℕ) → ListsExpr t s → s ≡ expr_at t (expr_label s)
  listed_is_at (const n v) l = sym (expr_at_const t formed n (expr_stands t n (ap sort l)) l)
  listed_is_at (var n x) l = sym (expr_at_var t formed n (expr_stands t n (ap sort l)) l)
  listed_is_at (uny n o e) l = ap (uny n o) (listed_is_at e l.1) ∙ sym (expr_at_uny t formed n (expr_stands t n (ap sort l.0)) l.0)
  listed_is_at (bin n a o b) l =
      (λ i. bin n (listed_is_at a l.1 i) o (listed_is_at b l.2 i)) ∙ sym (expr_at_bin t formed n (expr_stands t n (ap sort l.0)) l.0)

  pub listed_cmd_is_at : (s : Cmd ℕ) → ListsCmd t s → s ≡ cmd_at t (cmd_label s)
  listed_cmd_is_at (skip n) l = sym (cmd_at_skip t formed n (cmd_stands t n (ap sort l)) l)
  listed_cmd_is_at (assign n x e) l = ap (assign n x) (listed_is_at e l.1) ∙ sym (cmd_at_assign t formed n (cmd_stands t n (ap sort l.0)) l.0)
  listed_cmd_is_at (seq n a b) l =
      (λ i. seq n (listed_cmd_is_at a l.1 i) (listed_cmd_is_at b l.2 i)) ∙ sym (cmd_at_seq t formed n (cmd_stands t n (ap sort l.0)) l.0)
  listed_cmd_is_at (choice n e a b) l =
      (λ i. choice n (listed_is_at e l.1 i) (listed_cmd_is_at a l.2 i) (listed_cmd_is_at b l.3 i)) ∙ sym (cmd_at_choice t formed n (cmd_stands t n (ap sort l.0)) l.0)
  listed_cmd_is_at (loop n e b) l =
      (λ i. loop n (listed_is_at e l.1 i) (listed_cmd_is_at b l.2 i)) ∙ sym (cmd_at_loop t formed n (cmd_stands t n (ap sort l.0)) l.0)
  listed_cmd_is_at (input n x) l = sym (cmd_at_input t formed n (cmd_stands t n (ap sort l)) l)
  listed_cmd_is_at (output n e) l = ap (output n) (listed_is_at e l.1) ∙ sym (cmd_at_output t formed n (cmd_stands t n (ap sort l.0)) l.0)

  -- the body is the command at the program's part
  pub body_lists : ListsCmd t (program_of t).body
  body_lists =
      let p = end_program t formed in
      subst (ListsCmd t) (sym (program_at t formed p.1)) (lists_cmd_at p.0 (program_fact t formed (length t - 1) (end_below t formed) p.1).1)

  -- the tree at entry i, of the sort s, stands in the body
  abbrev Inside : ℕ → Sort → Type 0
  Inside i is_expr = ExprIn (expr_at t i) (program_of t).body
  Inside i is_cmd = CmdIn (cmd_at t i) (program_of t).body
  Inside i is_decl = Unit {0}
  Inside i is_program = Unit {0}
  Inside i is_none = Unit {0}

  abbrev AllInside : List Part → Type 0
  AllInside [] = Unit {0}
  AllInside (p ∷ ps) = Inside p.at p.wants × AllInside ps

  -- what stands in a tree that stands in the body
  expr_down : (k a : ℕ) → ExprIn (expr_at t k) (program_of t).body → InExpr (expr_at t a) (expr_at t k) → ExprIn (expr_at t a) (program_of t).body
  expr_down k a i q = expr_in_trans (expr_at t a) (expr_at t k) (program_of t).body i q

  value_down : (k a : ℕ) → CmdIn (cmd_at t k) (program_of t).body → ExprIn (expr_at t a) (cmd_at t k) → ExprIn (expr_at t a) (program_of t).body
  value_down k a i q = expr_in_cmd (expr_at t a) (cmd_at t k) (program_of t).body i q

  cmd_down : (k a : ℕ) → CmdIn (cmd_at t k) (program_of t).body → CmdIn (cmd_at t a) (cmd_at t k) → CmdIn (cmd_at t a) (program_of t).body
  cmd_down k a i q = cmd_in_trans (cmd_at t a) (cmd_at t k) (program_of t).body i q

  -- the parts of an entry whose tree stands in the body
  parts_inside : (k : ℕ) (lt : k < length t) (m : Node) → at t k ≡ Some m → Inside k (sort (Some m)) → AllInside (parts (Some m))
  parts_inside k lt (Decl x y) e i = tt
  parts_inside k lt (Const v) e i = tt
  parts_inside k lt (Var x) e i = tt
  parts_inside k lt (Uny o a) e i = (expr_down k a i (subst (InExpr (expr_at t a)) (sym (expr_at_uny t formed k lt e)) (inr (in_self (expr_at t a)))), tt)
  parts_inside k lt (Bin a o b) e i =
      let is = sym (expr_at_bin t formed k lt e) in (
        expr_down k a i (subst (InExpr (expr_at t a)) is (inr (inl (in_self (expr_at t a))))),
        (expr_down k b i (subst (InExpr (expr_at t b)) is (inr (inr (in_self (expr_at t b))))), tt),
      )
  parts_inside k lt Skip e i = tt
  parts_inside k lt (Assign x a) e i = (value_down k a i (subst (ExprIn (expr_at t a)) (sym (cmd_at_assign t formed k lt e)) (in_self (expr_at t a))), tt)
  parts_inside k lt (Seq a b) e i =
      let is = sym (cmd_at_seq t formed k lt e) in (
        cmd_down k a i (subst (CmdIn (cmd_at t a)) is (inr (inl (cmd_self (cmd_at t a))))),
        (cmd_down k b i (subst (CmdIn (cmd_at t b)) is (inr (inr (cmd_self (cmd_at t b))))), tt),
      )
  parts_inside k lt (Choice a b c) e i =
      let is = sym (cmd_at_choice t formed k lt e) in (
        value_down k a i (subst (ExprIn (expr_at t a)) is (inl (in_self (expr_at t a)))),
        (
          cmd_down k b i (subst (CmdIn (cmd_at t b)) is (inr (inl (cmd_self (cmd_at t b))))),
          (cmd_down k c i (subst (CmdIn (cmd_at t c)) is (inr (inr (cmd_self (cmd_at t c))))), tt),
        ),
      )
  parts_inside k lt (Loop a b) e i =
      let is = sym (cmd_at_loop t formed k lt e) in (
        value_down k a i (subst (ExprIn (expr_at t a)) is (inl (in_self (expr_at t a)))),
        (cmd_down k b i (subst (CmdIn (cmd_at t b)) is (inr (cmd_self (cmd_at t b)))), tt),
      )
  parts_inside k lt (Input x) e i = tt
  parts_inside k lt (Output a) e i = (value_down k a i (subst (ExprIn (expr_at t a)) (sym (cmd_at_output t formed k lt e)) (in_self (expr_at t a))), tt)
  parts_inside k lt (Program a) e i =
      let last : k ≡ length t - 1 = omega (arith, (program_fact t formed k lt e).2) in
      (subst (CmdIn (cmd_at t a)) (sym (program_at t formed (subst (λ j. at t j ≡ Some (Program a)) last e))) (cmd_self (cmd_at t a)), tt)

  -- one of the parts that stand before k
  part_before : (n k : ℕ) (ps : List Part) → Stand t k ps → Occurs n ps → n < k
  part_before n k [] s q = absurd q
  part_before n k (p ∷ ps) s (inl q) = subst (λ i. i < k) q s.0
  part_before n k (p ∷ ps) s (inr q) = part_before n k ps s.2 q

  part_inside : (n k : ℕ) (ps : List Part) → Stand t k ps → AllInside ps → Occurs n ps → Inside n (sort (at t n))
  part_inside n k [] s i q = absurd q
  part_inside n k (p ∷ ps) s i (inl q) = subst (λ j. Inside j (sort (at t j))) q (subst (Inside p.at) (sym s.1) i.0)
  part_inside n k (p ∷ ps) s i (inr q) = part_inside n k ps s.2 i.1 q

  -- from the last entry down
  inside_by : (f n : ℕ) → length t ≤ n + f → n < length t → Inside n (sort (at t n))
  inside_by zero n h lt = absurd (omega arith)
  inside_by (suc f) n h lt = by (sort (at t n)) refl (λ k l kl. inside_by f k (omega arith) kl)
    where
      from : ((k : ℕ) → n < k → k < length t → Inside k (sort (at t k))) → (k : ℕ) × (k < length t) × Occurs n (parts (at t k)) → Inside n (sort (at t n))
      from r u =
          let k = u.0 in
          let m = some_node t formed k u.1 in
          let s = stand_fact t formed k u.1 in
          part_inside n k (parts (at t k)) s
          (subst (λ o. AllInside (parts o)) (sym m.1) (parts_inside k u.1 m.0 m.1 (subst (λ o. Inside k (sort o)) m.1 (r k (part_before n k (parts (at t k)) s u.2) u.1))))
          u.2

      by : (s : Sort) → sort (at t n) ≡ s → ((k : ℕ) → n < k → k < length t → Inside k (sort (at t k))) → Inside n (sort (at t n))
      by is_expr e r = from r (expr_part t formed n lt e)
      by is_cmd e r = from r (cmd_part t formed n lt e)
      by is_decl e r = subst (Inside n) (sym e) tt
      by is_program e r = subst (Inside n) (sym e) tt
      by is_none e r = subst (Inside n) (sym e) tt

  inside : (n : ℕ) → n < length t → Inside n (sort (at t n))
  inside n lt = inside_by (length t) n (omega arith) lt

  -- every expression and every command of the table stands in the tree
  pub expr_reached : (n : ℕ) → n < length t → sort (at t n) ≡ is_expr → ExprIn (expr_at t n) (program_of t).body
  expr_reached n lt e = subst (Inside n) e (inside n lt)

  pub cmd_reached : (n : ℕ) → n < length t → sort (at t n) ≡ is_cmd → CmdIn (cmd_at t n) (program_of t).body
  cmd_reached n lt e = subst (Inside n) e (inside n lt)

  -- and what stands in the tree is the tree at an entry
  pub expr_listed : (s : Expr ℕ) → ExprIn s (program_of t).body → (expr_label s < length t) × (sort (at t (expr_label s)) ≡ is_expr) × (s ≡ expr_at t (expr_label s))
  expr_listed s i =
      let l = lists_expr_in t s (program_of t).body i body_lists in
      let e = lists_expr_sort t s l in
      (expr_stands t (expr_label s) e, e, listed_is_at s l)

  pub cmd_listed : (s : Cmd ℕ) → CmdIn s (program_of t).body → (cmd_label s < length t) × (sort (at t (cmd_label s)) ≡ is_cmd) × (s ≡ cmd_at t (cmd_label s))
  cmd_listed s i =
      let l = lists_cmd_in t s (program_of t).body i body_lists in
      let e = lists_cmd_sort t s l in
      (cmd_stands t (cmd_label s) e, e, listed_cmd_is_at s l)

  program_lists : Lists t (program_of t)
  unfolding program_of
  program_lists =
      let p = end_program t formed in
      record {
        last = omega (arith, not_empty t formed);
        program = p.1 ∙ sym (ap (λ (i : ℕ). Some (Program i)) (ap cmd_label (program_at t formed p.1) ∙ cmd_label_lem t p.0));
        decls = refl;
        body = body_lists;
        exprs = λ n lt e. (expr_at t n, expr_label_lem t n, expr_reached n lt e);
        cmds = λ n lt e. (cmd_at t n, cmd_label_lem t n, cmd_reached n lt e);
      }

  only_program : (q : tree.Program ℕ) → Lists t q → q ≡ program_of t
  unfolding program_of
  only_program q l = λ i. record { label = same i; decls = l.decls i; body = body i }
    where
      same : q.label ≡ length t - 1
      same = omega (arith, l.last)

      body : q.body ≡ (program_of t).body
      body = listed_cmd_is_at q.body l.body ∙ sym (program_at t formed (subst (λ j. at t j ≡ Some (Program (cmd_label q.body))) same l.program))

-- the table lists the tree that it is decoded to, and no other
pub one_tree : (t : List Entry) → is_formed t ≡ true → OneTree t (program_of t)
one_tree t formed = (program_lists t formed, only_program t formed)
