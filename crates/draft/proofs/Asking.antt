-- The questions of known entries and of their parts, as tests of each entry and of each part.
use Rattle.std.proofs.Common.{◌≡◌, ℕ, suc, Bool, true, false, ◌&&◌, List, [], ◌∷◌, map, Some, None, Option, sym, refl, ap, ◌∙◌, add-one}
use Rattle.std.specs.List.{list_all, enumerate_from, flat_map}
use Rattle.std.specs.Option.{option_to_list}
use Rattle.tosca.specs.declared.table.Entry.{Entry}
use Rattle.tosca.specs.Table.{node}
use Rattle.tosca.specs.Opens.{placed, are_placed, parts}
use Rattle.draft.specs.declared.nodes.Part.{Part as NodePart}
use Rattle.draft.specs.Nodes.{part_of}

-- a part that an entry may have
abbrev pub placed_part : List Entry → ℕ → Option NodePart → Bool
placed_part t k None = true
placed_part t k (Some p) = placed t k (part_of p ∷ [])

pub placed_parts : (t : List Entry) (k : ℕ) (ps : List (Option NodePart)) → placed t k (map part_of (flat_map option_to_list ps)) ≡ list_all (placed_part t k) ps
placed_parts t k [] = refl
placed_parts t k (None ∷ ps) = placed_parts t k ps
placed_parts t k (Some p ∷ ps) = go _ (placed t k (map part_of (flat_map option_to_list ps))) ∙ ap (λ b. placed t k (part_of p ∷ []) && b) (placed_parts t k ps)
  where
    go : (x y : Bool) → (x && y) ≡ ((x && true) && y)
    go true y = refl
    go false y = refl

abbrev pub placed_entry : List Entry → ℕ × Entry → Bool
placed_entry t p = placed t p.0 (parts (node p.1))

pub placed_each : (t : List Entry) (j : ℕ) (es : List Entry) → are_placed t j es ≡ list_all (placed_entry t) (enumerate_from j es)
placed_each t j [] = refl
placed_each t j (e ∷ es) =
    ap (λ b. placed_entry t (j, e) && b) (placed_each t (suc j) es ∙ ap (λ n. list_all (placed_entry t) (enumerate_from n es)) (sym (add-one j)))
