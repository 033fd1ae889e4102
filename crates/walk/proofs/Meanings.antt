-- What the readings come to. Assumes nothing.
use Rattle.std.proofs.Common.{◌≡◌, ℕ, zero, suc, ◌<◌, ◌≤◌, min, Bool, true, false, cond, ltb, List, length, get_or, Some, None, Option, sym, refl, ap, ◌∙◌, subst, inl, inr, ⊎_elim, arith, ltb-true, eq-eqb, eqb-true}
use Rattle.std.proofs.lemmas.Bool.{both_ways, or_cases, or_left, or_right}
use Rattle.tosca.specs.declared.operators.SimpleType.{SimpleType}
use Rattle.tosca.specs.declared.table.Entry.{Entry}
use Rattle.tosca.specs.declared.table.Node.{Node}
use Rattle.tosca.specs.declared.table.Node.TheVariants.{Decl, Const, Var, Uny, Bin, Skip, Assign, Seq, Choice, Loop, Input, Output, Program}
use Rattle.tosca.specs.Table.{blank, node}
use Rattle.tosca.specs.Trees.{Expr, const, var, uny, bin}
use Rattle.tosca.specs.Trees as tree
use Rattle.tosca.specs.Decode.{earlier, no_expr, expr_of, expr_by, expr_at}
use Rattle.statics.specs.Folding.{fold}
use Rattle.statics.specs.Typing.{Verdict, type_in, typing, verdict}
use Rattle.statics.specs.Temporaries.{need}
use Rattle.walk.specs.Walking.{filled_by, filled}
use Rattle.walk.specs.Readings.{needing, holds, variables, Reads, SetRead, EachReads}
use Rattle.walk.proofs.Sets.{holds_none, holds_or, holds_single}
use Rattle.walk.proofs.Filling.{filled_same, filled_expr, length_filled, expr_within}

-- types

-- where the types of the names are the declared ones, the verdicts are those on the declarations
pub verdicts_filled : (ty : ℕ → Option SimpleType) (ds : List (tree.Decl ℕ)) → ((x : ℕ) → ty x ≡ type_in ds x) → (t : List Entry) (n : ℕ) (xs : List Verdict) → filled (typing ty) t n xs ≡ filled_by (verdict ds) t n xs
verdicts_filled ty ds same t n xs = λ i. filled (typing (λ x. same x i)) t n xs

-- temporaries

needing_is : (e : Expr ℕ) → fold needing e ≡ min (need e) 65535
unfolding fold need
needing_is (const n v) = refl
needing_is (var n x) = refl
needing_is (uny n o e) = needing_is e
needing_is (bin n a o b) =
    let ha = needing_is a in
    let hb = needing_is b in
    omega arith

earlier_need : (n k : ℕ) (e : Expr ℕ) → need e ≤ suc k → (need (earlier n k (no_expr k) e) ≤ n)
unfolding need
earlier_need n k e h = by (ltb k n) refl
  where
    by : (v : Bool) → ltb k n ≡ v → need (cond v e (no_expr k)) ≤ n
    by true q = omega (arith, ltb-true k n q)
    by false q = omega arith

need_of : (n : ℕ) (part : ℕ → Expr ℕ) → ((k : ℕ) → need (part k) ≤ suc k) → (o : Option Node) → need (expr_of n part o) ≤ suc n
unfolding need
need_of n part h (Some (Const v)) = omega arith
need_of n part h (Some (Var x)) = omega arith
need_of n part h (Some (Uny o a)) = omega (arith, earlier_need n a (part a) (h a))
need_of n part h (Some (Bin a o b)) = omega (arith, earlier_need n a (part a) (h a), earlier_need n b (part b) (h b))
need_of n part h (Some (Decl x y)) = omega arith
need_of n part h (Some Skip) = omega arith
need_of n part h (Some (Assign x a)) = omega arith
need_of n part h (Some (Seq a b)) = omega arith
need_of n part h (Some (Choice a b c)) = omega arith
need_of n part h (Some (Loop a b)) = omega arith
need_of n part h (Some (Input x)) = omega arith
need_of n part h (Some (Output a)) = omega arith
need_of n part h (Some (Program a)) = omega arith
need_of n part h None = omega arith

need_by : (f : ℕ) (t : List Entry) (n : ℕ) → need (expr_by f t n) ≤ suc n
unfolding expr_by need
need_by zero t n = omega arith
need_by (suc f) t n = need_of n (λ k. expr_by f t k) (λ k. need_by f t k) (node (get_or t n blank))

-- an expression needs no more temporaries than its number and one, whatever the table
pub need_within : (t : List Entry) (n : ℕ) → need (expr_at t n) ≤ suc n
unfolding expr_at
need_within t n = need_by (suc n) t n

pub needs_filled : (t : List Entry) → length t ≤ 1024 → (xs ys : List ℕ) → ys ≡ filled needing t 0 xs → ys ≡ filled_by need t 0 xs
needs_filled t few xs ys e =
    e ∙ filled_same (fold needing) need t (λ k is. needing_is (expr_at t k) ∙ let lt = expr_within t k is in let h = need_within t k in omega arith) 0 xs

-- variables

none_read : (e : Expr ℕ) → ((x : ℕ) → Reads e x → ⊥) → SetRead 0 e
none_read e none = record { all = λ x r. absurd (none x r); only = λ x h. absurd (both_ways (holds 0 x) (holds_none x) h) }

pub set_read : (e : Expr ℕ) → SetRead (fold variables e) e
unfolding fold
set_read (const n v) = none_read (const n v) (λ x r. cc)
set_read (var n y) =
    record {
      all = λ x r. let p = r.1 in let q : y ≡ x = cc in holds_single y x ∙ eq-eqb y x q;
      only = λ x h. (n, ap (var n) (sym (eqb-true y x (sym (holds_single y x) ∙ h))));
    }
set_read (uny n o e) =
    record {
      all = λ x r. (set_read e).all x (r.0, ⊎_elim (λ p. cc) (λ i. i) r.1);
      only = λ x h. let r = (set_read e).only x h in (r.0, inr r.1);
    }
set_read (bin n a o b) =
    record {
      all = λ x r. holds_or (fold variables a) (fold variables b) x ∙ ⊎_elim
          (λ p. cc)
          (⊎_elim (λ i. or_left (holds (fold variables a) x) (holds (fold variables b) x) ((set_read a).all x (r.0, i))) (λ i. or_right (holds (fold variables a) x) (holds (fold variables b) x) ((set_read b).all x (r.0, i))))
          r.1;
      only = λ x h. ⊎_elim
          (λ l. let r = (set_read a).only x l in (r.0, inr (inl r.1)))
          (λ l. let r = (set_read b).only x l in (r.0, inr (inr r.1)))
          (or_cases (holds (fold variables a) x) (holds (fold variables b) x) (sym (holds_or (fold variables a) (fold variables b) x) ∙ h));
    }

pub each_reads : (t : List Entry) (xs ys : List ℕ) → ys ≡ filled variables t 0 xs → EachReads t ys
each_reads t xs ys e n h is =
    let lt : n < length xs = subst (λ (j : ℕ). n < j) (ap length e ∙ length_filled (fold variables) t 0 xs) h in
    subst (λ (s : ℕ). SetRead s (expr_at t n)) (sym (ap (λ (zs : List ℕ). get_or zs n 0) e ∙ filled_expr (fold variables) t xs n 0 lt is)) (set_read (expr_at t n))
