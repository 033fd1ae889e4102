-- The four bytes of a place.
use Rattle.std.proofs.Common.{◌≡◌, ℕ, pos, replicate, refl, ◌+◌, ◌*◌, ◌<◌, ◌≤◌, ◌≢◌, List, ℤ, length, slice_index, slice_index_or, ap, sym, ◌∙◌, arith, rules}
use Rattle.std.proofs.lemmas.List.{places, get_or-replicate}
use Rattle.line.specs.Registers.{number_at}
use borrow.Rule.Slice.PartMut.{put_mid}

-- equal bytes hold equal numbers
same_number : (f g : List ℕ) (k l : ℕ) → ((j : ℕ) → j < 4 → slice_index f (4 * k + j) ≡ slice_index g (4 * l + j)) → number_at f k ≡ number_at g l
same_number f g k l e =
    let at : (i j m : ℕ) → i ≡ 4 * k + j → m ≡ 4 * l + j → j < 4 → slice_index f i ≡ slice_index g m =
    λ i j m p q h. ap (slice_index f) p ∙ e j h ∙ ap (slice_index g) (sym q) in
    let a = at (2 * (2 * k)) 0 (2 * (2 * l)) (omega arith) (omega arith) (omega arith) in
    let b = at (2 * (2 * k) + 1) 1 (2 * (2 * l) + 1) (omega arith) (omega arith) (omega arith) in
    let c = at (2 * (2 * k + 1)) 2 (2 * (2 * l + 1)) (omega arith) (omega arith) (omega arith) in
    let d = at (2 * (2 * k + 1) + 1) 3 (2 * (2 * l + 1) + 1) (omega arith) (omega arith) (omega arith) in
    cc

module _ (bytes part : List ℕ) (place size : ℕ) (fits : 4 * place + 4 ≤ length bytes) (four : length part ≡ 4) (all : size ≡ 4) where
  pub written : number_at (put_mid (4 * place) size bytes part) place ≡ number_at part 0
  written = same_number (put_mid (4 * place) size bytes part) part place 0 (λ j h. search (rules, places))

  pub kept : (k : ℕ) → k ≢ place → number_at (put_mid (4 * place) size bytes part) k ≡ number_at bytes k
  kept k other = same_number (put_mid (4 * place) size bytes part) bytes k k (λ j h. search (rules, places))

zeros : (n k : ℕ) → 4 * k + 4 ≤ n → number_at (replicate n 0) k ≡ pos 0
zeros n k fits =
    let zero : (j : ℕ) → j < n → slice_index (replicate n 0) j ≡ 0 = λ j h. get_or-replicate n j 0 0 h in
    rw (zero (2 * (2 * k)) (omega arith), zero (2 * (2 * k) + 1) (omega arith), zero (2 * (2 * k + 1)) (omega arith), zero (2 * (2 * k + 1) + 1) (omega arith)) refl

pub blank_bytes : (bytes : List ℕ) (k : ℕ) → bytes ≡ replicate 240 0 → k < 60 → number_at bytes k ≡ pos 0
blank_bytes bytes k all within = rw all (zeros 240 k (omega arith))

pub no_numbers : (elements : List ℤ) (k : ℕ) → elements ≡ replicate 64 (pos 0) → k < 64 → slice_index_or elements k (pos 0) ≡ pos 0
no_numbers elements k all within = rw all (get_or-replicate 64 k (pos 0) (pos 0) within)
