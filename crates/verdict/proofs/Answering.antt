-- What an answer of reading says of its outcome, and the entries of the draft that is opened after it.
use Rattle.std.proofs.Common.{◌≡◌, ℕ, ◌-◌, ◌≤◌, true≢false, List, ◌++◌, length, take, replicate, Ok, Err, Result, MatchResult, is_ok, sym, refl, ap, ◌∙◌, arith}
use lib.ListN.{length-replicate}
use Rattle.std.proofs.lemmas.List.{take_at, length-take-le}
use Rattle.tosca.specs.declared.table.Entry.{Entry}
use Rattle.tosca.specs.Table.{blank}
use Rattle.tosca.specs.Opens.{opening, opened}
use Rattle.grammar.specs.Listing.{Listing, laid}
use Rattle.grammar.specs.Limits.{Outcome, accepted, refused, unended}
use Rattle.lexer.specs.declared.token.Question.{Question}
use Rattle.lexer.specs.declared.token.Question.TheVariants.{TextLength, Token, NameLength, NumberSize, Grammar, Depth, NameCount, NodeCount}
use Rattle.lexer.specs.Lexemes.{number_of}
use Rattle.reader.specs.Reading.{answer, count, no, table_after}
use Rattle.reader.proofs.Explaining.{take_laid}
use Rattle.std.specs.Result.{IsErrAnd}
use Rattle.draft.specs.declared.draft.Draft.{Draft}
use Rattle.draft.specs.declared.malformed.Malformed.{Malformed}
use Rattle.draft.specs.Opening.{entries_of, Made}
use Rattle.draft.proofs.Padding.{opened_is}
use Rattle.statics.specs.Checking.{rule_number}
use Rattle.verdict.specs.declared.rejection.Rejection.{Rejection}
use Rattle.verdict.specs.declared.rejection.Rejection.TheVariants.{Unread, Unsound}
use Rattle.verdict.specs.Verdicts.{said, checked, by_outcome, verdict_of, rejected_number, rejected_place, Judged}

number_some : (q : Question) → number_of q ≡ 0 → ⊥
number_some TextLength e = omega arith
number_some Token e = omega arith
number_some NameLength e = omega arith
number_some NumberSize e = omega arith
number_some Grammar e = omega arith
number_some Depth e = omega arith
number_some NameCount e = omega arith
number_some NodeCount e = omega arith

pub refused_by : (o : Outcome Listing) (q : Question) (p : ℕ) → no (number_of q) p ≡ answer o → o ≡ refused (number_of q) p
refused_by (accepted s) q p e = cc
refused_by (refused n m) q p e = cc
refused_by unended q p e = absurd (number_some q cc)

accepted_by : (o : Outcome Listing) (n : ℕ) → count n ≡ answer o → (s : Listing) × (o ≡ accepted s) × (length s.entries ≡ n)
accepted_by (accepted s) n e = (s, refl, cc)
accepted_by (refused k p) n e = cc
accepted_by unended n e = cc

-- the draft of an accepted table T has the entries of its listing
module _ (o : Outcome Listing) (s : Listing) (T nodes : List Entry) (n : ℕ) where
  entries_are : o ≡ accepted s → length s.entries ≡ n → T ≡ table_after 1024 o → opening T n ≡ opened → nodes ≡ take n T ++ replicate (1024 - n) blank → take n nodes ≡ s.entries
  entries_are a l e opens made =
      let q = opened_is T n opens in
      let room : List Entry = replicate 1024 blank in
      let fits : length s.entries ≤ length room = omega (arith, q.few, length-replicate 1024 blank) in
      ap (take n) made
      ∙ take_at (take n T) _ n (length-take-le n T q.within)
      ∙ ap (take n) (e ∙ ap (table_after 1024) a)
      ∙ ap (λ k. take k (laid s.entries room)) (sym l)
      ∙ take_laid s.entries room fits

pub drafted : (o : Outcome Listing) (T : List Entry) (n : ℕ) (r : Result Draft Malformed) (d : Draft) → count n ≡ answer o → T ≡ table_after 1024 o → opening T n ≡ opened → Made T n r → r ≡ Ok d → (s : Listing) × (o ≡ accepted s) × (length s.entries ≡ n) × (entries_of d ≡ s.entries)
drafted o T n r d is e opens made was =
    let a = accepted_by o n is in
    let m = rw was at made in
    (a.0, a.1, a.2, ap (λ k. take k d.nodes) m.0 ∙ entries_are o a.0 T d.nodes n a.1 a.2 e opens m.1)

-- what `map_err` was called on
pub unmapped_ok : {E D : Type 0} (r : Result (Unit {0}) E) (s : Result (Unit {0}) D) → is_ok s ≡ is_ok r → s ≡ Ok tt → r ≡ Ok tt
unmapped_ok (Ok tt) s v e = refl
unmapped_ok (Err x) s v e = absurd (true≢false (sym (ap is_ok e) ∙ v))

pub unmapped_err : {T E D : Type 0} (r : Result T E) (s : Result T D) (d : D) (Q : E → D → Type 0) → MatchResult r (λ x. s ≡ Ok x) (λ e. IsErrAnd s (Q e)) → s ≡ Err d → (e : E) × (r ≡ Err e) × Q e d
unmapped_err (Ok x) s d Q h e = absurd (true≢false (sym (ap is_ok h) ∙ ap is_ok e))
unmapped_err (Err x) s d Q h e = (x, refl, rw e at h)

-- the verdict of a judgement
pub ok_verdict : (bs : List ℕ) (n : ℕ) → Judged bs (Ok n) → said 0 0 ≡ verdict_of bs
unfolding verdict_of
ok_verdict bs n (s, a, l, h) = sym (ap by_outcome a ∙ ap (checked s.entries) h)

pub err_verdict : (bs : List ℕ) (r : Rejection) → Judged bs (Err r) → said (rejected_number r) (rejected_place r) ≡ verdict_of bs
unfolding verdict_of
err_verdict bs (Unread e) h = sym (ap by_outcome h)
err_verdict bs (Unsound v e) (s, a, h, at) = ap (λ (x : Entry). said (rule_number v.rule) x.place) at ∙ sym (ap by_outcome a ∙ ap (checked s.entries) h)
