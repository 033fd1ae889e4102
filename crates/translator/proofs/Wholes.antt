-- A whole routine: its command can be emitted, and what is left in the table.
use Rattle.std.proofs.Common.{◌≡◌, ℕ, ◌+◌, ◌-◌, ◌<◌, ◌≤◌, Bool, true, false, cond, leb, List, ◌++◌, map, length, get_or, replicate, is_ok, Ok, Err, Result, sym, refl, ap, ◌∙◌, subst, ap₂, arith}
use lib.ListN.{length-replicate}
use lib.Seq.{sets, sets-eq, length-sets}
use Rattle.std.proofs.lemmas.List.{length-map, drop-replicate}
use Rattle.std.proofs.lemmas.Bool.{false≢true, leb-true}
use Rattle.tosca.specs.Table.{blank, node}
use Rattle.tosca.specs.Trees.{Cmd}
use Rattle.tosca.specs.Types.{Types, type_in}
use Rattle.tosca.specs.Decode.{cmd_at}
use Rattle.tosca.specs.Opens.{sort, is_cmd}
use Rattle.draft.specs.declared.draft.Draft.{Draft}
use Rattle.draft.specs.Opening.{entries_of, tree_of}
use Rattle.statics.specs.declared.rules.Violation.{Violation}
use Rattle.statics.specs.Checking.{checking}
use Rattle.checks.specs.declared.state.Checked.{Checked}
use Rattle.checks.proofs.Within.{count_below}
use Rattle.aida.specs.declared.instructions.Coded.{Coded}
use Rattle.aida.specs.Templates.{code, cmd_length, cmd_code}
use Rattle.aida.proofs.Codes.{length_cmd_code}
use Rattle.code.specs.declared.table.CodeEntry.{CodeEntry}
use Rattle.code.specs.CodeTable.{code_entry, no_code}
use Rattle.code.specs.CodeLaws.{Remounts}
use Rattle.code.proofs.Written.{addressed_mounts}
use Rattle.agreement.specs.Premises.{CmdFits}
use Rattle.agreement.specs.Passed.{Passed}
use Rattle.agreement.proofs.Counting.{few_instructions}
use Rattle.agreement.proofs.Passing.{passed_checked, passed_code}
use Rattle.translator.specs.declared.emitter.Emitter.{Emitter}
use Rattle.translator.specs.declared.unfit.Unfit.{Unfit}
use Rattle.translator.specs.declared.unfit.Unfit.TheVariants.{TooShort}
use Rattle.translator.specs.Emitting.{Emitted, CmdReady}
use Rattle.translator.proofs.Stores.{as_code}
use Rattle.translator.specs.Translating.{fits, emptied, outcome, table_after, Mounts}

was_ok : (x : Result (Unit {0}) Violation) → is_ok x ≡ true → x ≡ Ok tt
was_ok (Ok u) e = refl
was_ok (Err v) e = absurd (false≢true e)

pub few_code : (d : Draft) → length (code (tree_of d)) ≤ 2048
few_code d = omega (arith, few_instructions (entries_of d) d.formed, count_below d)

-- the draft that a checked routine lends
module _ (k : Checked) {d : Draft} (lent : d ≡ k.draft) where
  passed : Passed (entries_of d)
  passed = record { formed = d.formed; passes = ap (λ (x : Draft). checking (tree_of x)) lent ∙ was_ok (checking (tree_of k.draft)) k.passed }

  pub body_ready : {n : ℕ} → n < length (entries_of d) → sort (node (get_or (entries_of d) n blank)) ≡ is_cmd → (tree_of d).body ≡ cmd_at (entries_of d) n → CmdReady (entries_of d) n 0
  body_ready {n} lt is e =
      let p = tree_of d in
      record {
        below = lt;
        is = is;
        fitting = subst CmdFits e (passed_checked (entries_of d) passed).fits;
        short = omega (arith, few_code d, length_cmd_code (type_in p.decls) 0 p.body, ap cmd_length e);
      }

  -- the types that the program has gathered are those of the declarations
  pub code_emitted : (ty : Types) (b : Cmd ℕ) {w w₁ : Emitter} → ((x : ℕ) → ty x ≡ type_in (tree_of d).decls x) → (tree_of d).body ≡ b → Emitted w (cmd_code ty 0 b) w₁ → Emitted w (code (tree_of k.draft)) w₁
  code_emitted ty b et eb h =
      let types : ty ≡ type_in (tree_of d).decls = λ i x. et x i in
      let whole : cmd_code ty 0 b ≡ code (tree_of d) = λ i. cmd_code (types i) 0 (sym eb i) in
      as_code (whole ∙ ap (λ (x : Draft). code (tree_of x)) lent) h

-- the code written into an empty table
pub filled_table : (is : List Coded) (cap : ℕ) → length is ≤ cap → sets (replicate cap no_code) 0 (map code_entry is) ≡ map code_entry is ++ replicate (cap - length is) no_code
filled_table is cap le =
    let left : cap - (0 + length (map code_entry is)) ≡ cap - length is = omega (arith, length-map is code_entry) in
    sets-eq (map code_entry is) (replicate cap no_code) 0 (omega (arith, length-map is code_entry, length-replicate cap no_code))
    ∙ ap (λ (rest : List CodeEntry). map code_entry is ++ rest) (drop-replicate (0 + length (map code_entry is)) cap no_code ∙ ap (λ (j : ℕ). replicate j no_code) left)

-- and emptied again if there is too much of it
pub settled : (is : List Coded) (cap : ℕ) → emptied (length is) (sets (replicate cap no_code) 0 (map code_entry is)) ≡ cond (leb (length is) cap) (map code_entry is ++ replicate (cap - length is) no_code) (replicate cap no_code)
settled is cap = ap (λ (n : ℕ). cond (leb (length is) n) (sets (replicate cap no_code) 0 (map code_entry is)) (replicate n no_code)) long ∙ by (leb (length is) cap) refl
  where
    long : length (sets (replicate cap no_code) 0 (map code_entry is)) ≡ cap
    long = length-sets (replicate cap no_code) 0 (map code_entry is) ∙ length-replicate cap no_code

    by : (b : Bool) → leb (length is) cap ≡ b → cond b (sets (replicate cap no_code) 0 (map code_entry is)) (replicate cap no_code) ≡ cond b (map code_entry is ++ replicate (cap - length is) no_code) (replicate cap no_code)
    by true e = filled_table is cap (leb-true (length is) cap e)
    by false e = refl

module _ (is : List Coded) (cap : ℕ) {count : ℕ} {empty written : List CodeEntry} (blanks : empty ≡ replicate cap no_code) (writes : written ≡ sets empty 0 (map code_entry is)) (counts : count ≡ length is) where
  pub long_still : length written ≡ cap
  long_still = ap length writes ∙ length-sets empty 0 (map code_entry is) ∙ ap length blanks ∙ length-replicate cap no_code

  pub answer_is : fits (length written) count ≡ fits cap (length is)
  answer_is = ap₂ fits long_still counts

  pub table_is : emptied count written ≡ cond (leb (length is) cap) (map code_entry is ++ replicate (cap - length is) no_code) (replicate cap no_code)
  table_is = ap₂ emptied counts (writes ∙ ap (λ (l : List CodeEntry). sets l 0 (map code_entry is)) blanks) ∙ settled is cap

-- the code of a checked routine mounts, whatever follows it
remounts : (k : Checked) (rest : List CodeEntry) → Remounts (code (tree_of k.draft)) rest
remounts k rest =
    addressed_mounts (code (tree_of k.draft)) rest (few_code k.draft) (passed_code (entries_of k.draft) (passed k refl))

module _ (k : Checked) {r : Result ℕ Unfit} {t : List CodeEntry} where
  pub mounts_always : (cap : ℕ) → r ≡ outcome cap (tree_of k.draft) → t ≡ table_after cap (tree_of k.draft) → Mounts (tree_of k.draft) t r
  mounts_always cap = by (leb (length (code (tree_of k.draft))) cap)
    where
      by : (b : Bool) → r ≡ cond b (Ok (length (code (tree_of k.draft)))) (Err TooShort) → t ≡ cond b (map code_entry (code (tree_of k.draft)) ++ replicate (cap - length (code (tree_of k.draft))) no_code) (replicate cap no_code) → Mounts (tree_of k.draft) t r
      by true er et =
          let m = remounts k (replicate (cap - length (code (tree_of k.draft))) no_code) in
          let table : Mounts (tree_of k.draft) t (Ok (length (code (tree_of k.draft)))) = subst (λ (x : List CodeEntry). Mounts (tree_of k.draft) x (Ok (length (code (tree_of k.draft))))) (sym et) (m.mounting_is, m.code_is) in
          subst (λ (x : Result ℕ Unfit). Mounts (tree_of k.draft) t x) (sym er) table
      by false er et = subst (λ (x : Result ℕ Unfit). Mounts (tree_of k.draft) t x) (sym er) tt
