-- A list with a limit, to which numbers are added last and from which they are removed first.
use Rattle.std.specs.Prelude.{ℕ, Bool, cond, List, [], ◌∷◌, ◌++◌, length, ℤ, Some, None, Option, Ok, Err, Result, nat_lt}

-- whether one more may be added
abbrev pub accepts : ℕ → List ℤ → Bool
accepts limit numbers = nat_lt (length numbers) limit

-- the answer where one more is offered
abbrev pub if_room : {E : Type 0} → ℕ → List ℤ → E → Result (Unit {0}) E
if_room limit numbers refusal = cond (accepts limit numbers) (Ok tt) (Err refusal)

-- the list after one more was offered: it stands last, or at the limit the list is as it was
abbrev pub enqueued : ℕ → ℤ → List ℤ → List ℤ
enqueued limit number numbers = cond (accepts limit numbers) (numbers ++ (number ∷ [])) numbers

-- the first number, if there is one
abbrev pub first : List ℤ → Option ℤ
first [] = None
first (number ∷ rest) = Some number

-- the list after the first was removed, if there is one
abbrev pub dequeued : List ℤ → List ℤ
dequeued [] = []
dequeued (number ∷ rest) = rest
