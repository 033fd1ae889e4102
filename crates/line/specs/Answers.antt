-- What the calls of a line answer, from the limit and the list that they are about, and the refusals' numbers.
use Rattle.std.specs.Prelude.{ℕ, List, [], ◌∷◌, ℤ, Ok, Err, Result}
use Rattle.line.specs.declared.answers.FeedRefusal.{FeedRefusal}
use Rattle.line.specs.declared.answers.FeedRefusal.TheVariants as feed
use Rattle.line.specs.declared.answers.SendRefusal.{SendRefusal}
use Rattle.line.specs.declared.answers.SendRefusal.TheVariants as send
use Rattle.line.specs.declared.answers.TakeRefusal.{TakeRefusal}
use Rattle.line.specs.declared.answers.TakeRefusal.TheVariants as take
use Rattle.line.specs.Queues.{if_room}

abbrev pub feed_answer : ℕ → List ℤ → Result (Unit {0}) FeedRefusal
feed_answer limit readings = if_room limit readings feed.Full

abbrev pub send_answer : ℕ → List ℤ → Result (Unit {0}) SendRefusal
send_answer limit sends = if_room limit sends send.Full

abbrev pub take_answer : List ℤ → Result ℤ TakeRefusal
take_answer [] = Err take.Empty
take_answer (number ∷ rest) = Ok number

-- a reading is fed where as many wait as may
abbrev pub feed_number : FeedRefusal → ℕ
feed_number feed.Full = 51

-- a send is to be taken where none waits
abbrev pub take_number : TakeRefusal → ℕ
take_number take.Empty = 52
