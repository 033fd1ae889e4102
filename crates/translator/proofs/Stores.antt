-- Runs of stores, and what emitters did one after another. Assumes nothing.
use Rattle.std.proofs.Common.{◌≡◌, ℕ, suc, ◌+◌, ◌<◌, List, [], ◌∷◌, ◌++◌, map, length, set, sym, refl, ap, ◌∙◌, subst, ap₂, arith}
use lib.Seq.{sets}
use Rattle.std.proofs.lemmas.List.{set_comm, map-append, length-map, length-append}
use Rattle.aida.specs.declared.instructions.Coded.{Coded}
use Rattle.code.specs.declared.table.CodeEntry.{CodeEntry}
use Rattle.code.specs.CodeTable.{code_entry}
use Rattle.translator.specs.declared.emitter.Emitter.{Emitter}
use Rattle.translator.specs.Emitting.{Stores, Emitted}

module _ {A : Type 0} where
  pub sets_append : (l : List A) (i : ℕ) (xs ys : List A) → sets l i (xs ++ ys) ≡ sets (sets l i xs) (i + length xs) ys
  sets_append l i [] ys = ap (λ (k : ℕ). sets l k ys) (omega arith)
  sets_append l i (x ∷ xs) ys = sets_append (set l i x) (suc i) xs ys ∙ ap (λ (k : ℕ). sets (sets (set l i x) (suc i) xs) k ys) (omega arith)

  -- a store in front of others
  pub set_before : (l : List A) (i k : ℕ) (x : A) (ys : List A) → i < k → set (sets l k ys) i x ≡ sets (set l i x) k ys
  set_before l i k x [] lt = refl
  set_before l i k x (y ∷ ys) lt = set_before (set l k y) i (suc k) x ys (omega arith) ∙ ap (λ (m : List A). sets m (suc k) ys) (set_comm l k i y x (omega arith))

pub joined : {d e f : Emitter} {xs ys : List Coded} → Emitted d xs e → Emitted e ys f → Emitted d (xs ++ ys) f
joined {d} {e} {f} {xs} {ys} a b =
    let start : e.next ≡ d.next + length (map code_entry xs) = omega (arith, a.next, length-map xs code_entry) in
    record {
      table =
          b.table
          ∙ ap₂ (λ (u : List CodeEntry) (k : ℕ). sets u k (map code_entry ys)) a.table start
          ∙ sym (sets_append d.table.now d.next (map code_entry xs) (map code_entry ys))
          ∙ ap (sets d.table.now d.next) (sym (map-append code_entry xs ys));
      next = omega (arith, a.next, b.next, length-append xs ys);
      lent = b.lent ∙ a.lent;
    }

-- an instruction that was left out is written after those that follow it
pub filled : {d e f g : Emitter} {j : ℕ} {ys : List Coded} (i : Coded) → Stores d d.next [] 1 e → j ≡ d.next → Emitted e ys f → Stores f j (i ∷ []) 0 g → Emitted d (i ∷ ys) g
filled {d} {e} {f} {g} {j} {ys} i skips ej b writes =
    let follows : e.next ≡ suc d.next = omega (arith, skips.next) in
    record {
      table =
          writes.table
          ∙ ap₂ (λ (u : List CodeEntry) (k : ℕ). set u k (code_entry i)) (b.table ∙ ap (λ (u : List CodeEntry). sets u e.next (map code_entry ys)) skips.table) ej
          ∙ set_before d.table.now d.next e.next (code_entry i) (map code_entry ys) (omega arith)
          ∙ ap (λ (k : ℕ). sets (set d.table.now d.next (code_entry i)) k (map code_entry ys)) follows;
      next = omega (arith, writes.next, b.next, skips.next);
      lent = writes.lent ∙ b.lent ∙ skips.lent;
    }

pub as_code : {d e : Emitter} {xs ys : List Coded} → xs ≡ ys → Emitted d xs e → Emitted d ys e
as_code {d} {e} is h = subst (λ (zs : List Coded). Emitted d zs e) is h
