-- Entries that open, and the draft of them, with blank ones after them.
use Rattle.std.proofs.Common.{◌≡◌, ℕ, ◌-◌, ◌≤◌, Bool, true, false, cond, leb, ◌&&◌, List, ◌++◌, length, take, drop, replicate, refl, sym, ap, ◌∙◌, subst}
use Rattle.std.proofs.lemmas.List.{take_at, drop-replicate, length-take-le}
use Rattle.std.proofs.lemmas.Bool.{and_parts, leb-true}
use Rattle.tosca.specs.declared.table.Entry.{Entry}
use Rattle.tosca.specs.Table.{blank}
use Rattle.tosca.specs.Decode.{program_of}
use Rattle.tosca.specs.Opens.{counted, are_known, are_placed, arranged, Opening, opening, opened, refused, entries_open}
use Rattle.draft.specs.Forming.{is_formed}
use Rattle.draft.specs.OneTree.{OneTree}
use Rattle.draft.proofs.Tree.{one_tree}

-- entries open if every question has a yes
formed_is : (t : List Entry) → entries_open t ≡ opened → is_formed t ≡ true
unfolding is_formed
formed_is t o = go (are_known t) (are_placed t 0 t) (arranged t) o
  where
    go : (k p a : Bool) → cond k (cond p (cond a opened (refused 14)) (refused 13)) (refused 12) ≡ opened → (k && (p && a)) ≡ true
    go false p a e = cc
    go true false a e = cc
    go true true false e = cc
    go true true true e = refl

-- what opens is counted and formed
pub record Opened (t : List Entry) (n : ℕ) : Type 0 where
  pub few : n ≤ 1024
  pub within : n ≤ length t
  pub formed : is_formed (take n t) ≡ true

counted_first : (c : Bool) (x : Opening) → cond c x (refused 11) ≡ opened → (c ≡ true) × (x ≡ opened)
counted_first false x e = cc
counted_first true x e = (refl, e)

pub opened_is : (t : List Entry) (n : ℕ) → opening t n ≡ opened → Opened t n
opened_is t n e =
    let q = counted_first (counted (length t) n) (entries_open (take n t)) e in
    let bounds = and_parts (leb n 1024) (leb n (length t)) (and_parts (leb 1 n) _ q.0).1 in
    record { few = leb-true n 1024 bounds.0; within = leb-true n (length t) bounds.1; formed = formed_is (take n t) q.1 }

-- what a copy to the front of blank entries leaves
pub padded_is : (t ys : List Entry) → ys ≡ t → ys ++ drop (length t) (replicate 1024 blank) ≡ t ++ replicate (1024 - length t) blank
padded_is t ys e = ap (λ l. l ++ drop (length t) (replicate 1024 blank)) e ∙ ap (λ l. t ++ l) (drop-replicate (length t) 1024 blank)

-- the nodes of the draft of the first n entries, where these open
module _ (t nodes : List Entry) (n : ℕ) (e : nodes ≡ take n t ++ replicate (1024 - length (take n t)) blank) (o : opening t n ≡ opened) where
  long : length (take n t) ≡ n
  long = length-take-le n t (opened_is t n o).within

  pub nodes_are : nodes ≡ take n t ++ replicate (1024 - n) blank
  nodes_are = e ∙ ap (λ k. take n t ++ replicate (1024 - k) blank) long

  first_are : take n nodes ≡ take n t
  first_are = ap (take n) nodes_are ∙ take_at (take n t) _ n long

  pub nodes_formed : is_formed (take n nodes) ≡ true
  nodes_formed = ap is_formed first_are ∙ (opened_is t n o).formed

  pub nodes_tree : OneTree (take n t) (program_of (take n nodes))
  nodes_tree = subst (λ s. OneTree (take n t) (program_of s)) (sym first_are) (one_tree (take n t) (opened_is t n o).formed)
