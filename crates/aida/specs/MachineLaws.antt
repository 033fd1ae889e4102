-- Laws of the machine, whatever its code.
use Rattle.std.specs.Prelude.{◌≡◌, ℕ, ◌+◌, ◌≤◌, List, length, ℤ, ◌≢◌}
use Rattle.aida.specs.declared.instructions.Coded.{Coded}
use Rattle.aida.specs.declared.status.Status.TheVariants.{Ready}
use Rattle.aida.specs.Machine.{Machine, with_status, feed, take, step, Runs}

-- only a ready machine acts
abbrev pub Idle : Type 0
Idle = (code : List Coded) (limit allowed : ℕ) (m : Machine) → (m.status ≢ Ready) → step code limit allowed m ≡ m

-- a step that stops or faults alters only the status
abbrev pub Unaltered : Type 0
Unaltered =
    (code : List Coded) (limit allowed : ℕ) (m : Machine) → ((step code limit allowed m).status ≢ Ready)
    → step code limit allowed m ≡ with_status (step code limit allowed m).status m

-- every run ends, and in one way
abbrev pub Ending : Type 0
Ending = (code : List Coded) (limit allowed : ℕ) (a : Machine) → (b : Machine) × Runs code limit allowed a b

abbrev pub OneEnd : Type 0
OneEnd = (code : List Coded) (limit allowed : ℕ) (a b c : Machine) → Runs code limit allowed a b → Runs code limit allowed a c → b ≡ c

-- A run stops at b. More readings are fed, k sends are taken, and b is made ready; the turns now allowed cover those that are spent.
-- Then it comes to where one run from the beginning comes to that is given all this at once, with room for the k sends besides
abbrev pub Resumption : Type 0
Resumption =
    (code : List Coded) (limit before allowed k : ℕ) (rs : List ℤ) (a b c : Machine) → a.status ≡ Ready
    → Runs code limit before a b → b.turns ≤ allowed → k ≤ length b.sends
    → Runs code (k + limit) allowed (feed rs a) c → Runs code limit allowed (take k (feed rs (with_status Ready b))) (take k c)
