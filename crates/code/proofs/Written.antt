-- The laws of the format, and code that is written and mounted.
use Rattle.std.proofs.Common.{◌≡◌, ℕ, ◌≤◌, Bool, true, cond, List, [], ◌∷◌, map, length, take, is_some, Some, Option, unwrap_or, refl, ap, ◌∙◌, arith}
use Rattle.std.specs.Option.{option_map}
use Rattle.std.proofs.lemmas.List.{take_at, length-map, length-append}
use Rattle.std.proofs.lemmas.Bool.{and_from, le-leb, cond-true}
use Rattle.tosca.specs.declared.operators.Unary.TheVariants.{Negate, Not}
use Rattle.tosca.specs.declared.operators.Binary.{Binary}
use Rattle.tosca.proofs.Entries.{binary_coded}
use Rattle.aida.specs.declared.instructions.Instruction.{Instruction}
use Rattle.aida.specs.declared.instructions.Instruction.TheVariants.{LoadConst, LoadVar, Store, UnaryOp, BinaryOp, Input, InputBit, Output, Jump, Goto}
use Rattle.aida.specs.declared.instructions.Coded.{Coded}
use Rattle.aida.specs.Templates.{coded}
use Rattle.aida.specs.TemplateLaws.{all_addressed}
use Rattle.code.specs.CodeTable.{entry_for, code_entry, coded_of}
use Rattle.code.specs.Questions.{blank_coded, known, are_known, said_by_all, are_within, counted, mounts, refused}
use Rattle.code.specs.CodeLaws.{Faithful, written, AddressedMounts, Worked}

entry_said : (i : Instruction) (n : ℕ) → coded_of (entry_for i n) ≡ Some (coded n i)
entry_said (LoadConst v) n = refl
entry_said (LoadVar c) n = refl
entry_said (Store c) n = refl
entry_said (UnaryOp Negate) n = refl
entry_said (UnaryOp Not) n = refl
entry_said (BinaryOp o c) n = ap (λ (x : Option Binary). option_map (coded n) (option_map (λ (y : Binary). BinaryOp y c) x)) (binary_coded o)
entry_said Input n = refl
entry_said InputBit n = refl
entry_said Output n = refl
entry_said (Jump t) n = refl
entry_said (Goto t) n = refl

coded_said : (i : Coded) → coded_of (code_entry i) ≡ Some i
coded_said i = entry_said i.instruction i.node

pub faithful : Faithful
faithful = record { said = coded_said; nothing = refl }

all_known : (is : List Coded) → are_known (map code_entry is) ≡ true
all_known [] = refl
all_known (i ∷ is) = and_from (known (code_entry i)) (are_known (map code_entry is)) (ap is_some (coded_said i)) (all_known is)

all_said : (is : List Coded) → said_by_all (map code_entry is) ≡ is
all_said [] = refl
all_said (i ∷ is) =
    ap (λ (o : Option Coded). unwrap_or o blank_coded ∷ said_by_all (map code_entry is)) (coded_said i) ∙ ap (λ (l : List Coded). i ∷ l) (all_said is)

passing : (c k w : Bool) → c ≡ true → k ≡ true → w ≡ true → cond c (cond k (cond w mounts (refused 43)) (refused 42)) (refused 41) ≡ mounts
passing c k w p q r = cond-true c _ _ p ∙ cond-true k _ _ q ∙ cond-true w _ _ r

pub addressed_mounts : AddressedMounts
addressed_mounts is rest few h =
    let n = length is in
    let table = written is rest in
    let long : length (map code_entry is) ≡ n = length-map is code_entry in
    let first : take n table ≡ map code_entry is = take_at (map code_entry is) rest n long in
    let within : n ≤ length table = omega (arith, length-append (map code_entry is) rest) in
    let code : said_by_all (take n table) ≡ is = ap said_by_all first ∙ all_said is in
    record {
      mounting_is =
          passing (counted (length table) n) (are_known (take n table)) (are_within n (take n table))
          (and_from _ _ (le-leb n 2048 few) (le-leb n (length table) within))
          (ap are_known first ∙ all_known is)
          (ap (all_addressed n) code ∙ h);
      code_is = code;
    }

pub worked : Worked
worked = refl
