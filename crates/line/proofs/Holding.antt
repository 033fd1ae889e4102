-- The numbers in a queue's places, as the list that its contracts see.
use Rattle.std.specs.Prelude.{◌≡◌, ℕ, ◌+◌, ◌-◌, ◌<◌, ◌≤◌, true, ◌≢◌, List, ℤ, nat_lt, refl}
use Rattle.std.proofs.Common.{sym, ap, ◌∙◌}
use Rattle.std.proofs.lemmas.Bool.{ltb-true}
use Rattle.line.specs.Queues.{accepts, enqueued, dequeued}
use Rattle.line.specs.Places.{place, held}
use Rattle.line.specs.Holding as places

-- the numbers now, seen in the places
module _ (size : ℕ) (cell : ℕ → ℤ) (head len : ℕ) (now : List ℤ) (seen : held size cell head len ≡ now) where
  -- whether the list is below its limit is whether the length is
  pub room : nat_lt len size ≡ accepts size now
  room = places.room size cell head len ∙ ap (accepts size) seen

  pub below : true ≡ accepts size now → len < size
  below free = ltb-true len size (room ∙ sym free)

  pub removed : head < size → len ≤ size → 0 < len → held size cell (place size head 1) (len - 1) ≡ dequeued now
  removed h l some = (places.removed size cell head len (place size head 1) (len - 1) h l some refl refl).1 ∙ ap dequeued seen

  pub appended : (after : ℕ → ℤ) (end : ℕ) → head < size → true ≡ accepts size now → end ≡ place size head len
      → ((k : ℕ) → k ≢ end → after k ≡ cell k) → held size after head (len + 1) ≡ enqueued size (after end) now
  appended after end h free is elsewhere =
      places.appended size cell after head len head (len + 1) (after end) h (free ∙ sym room) refl refl (ap after (sym is)) (λ k n. elsewhere k (λ e. n (e ∙ is)))
      ∙ ap (enqueued size (after end)) seen
