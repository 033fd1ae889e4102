-- Each way through the reader's functions.
use Rattle.std.specs.Result.{is_err}
use Rattle.std.proofs.Common.{◌≡◌, ℕ, ◌<◌, ◌≤◌, Bool, true, false, cond, ◌&&◌, leb, List, [], ◌∷◌, length, replicate, Ok, Err, Result, sym, refl, ap, ◌∙◌, subst, arith}
use lib.ListN.{length-replicate}
use borrow.Author.Tests.{lt-leb}
use Rattle.tosca.specs.declared.table.Entry.{Entry}
use Rattle.tosca.specs.Table.{blank}
use Rattle.grammar.specs.Automaton.{text}
use Rattle.grammar.specs.Listing.{Listing, listing, list, laid, entries_of}
use Rattle.grammar.specs.Limits.{Outcome, accepted, refused, reads}
use Rattle.lexer.specs.declared.token.Refusal.{Refusal}
use Rattle.lexer.specs.Lexemes.{number_of}
use Rattle.lexer.specs.Scan.{scan, limited}
use Rattle.lexer.specs.Names.{nothing, ends}
use Rattle.parser.proofs.CommandSteps.{clash}
use Rattle.parser.specs.Feeds.{Feed, feed}
use Rattle.parser.specs.Parsing as parsing
use Rattle.reader.specs.Reading.{holding, outcome, count, no, answer, answered, table_after, Nodes}
use Rattle.reader.specs.Reasons.{tokens, Accepted, Explained, Complete}
use Rattle.reader.proofs.Explaining.{reads_short, accepts, refuses, completes}

pub too_long : (cap : ℕ) (bs : List ℕ) → 16384 < length bs → outcome cap bs ≡ refused 1 0
too_long cap bs h = ap (λ b. holding cap (length bs) (cond b (reads list (listing [] []) (tokens bs) (ends (limited (scan 0 bs)))) (refused 1 0))) (lt-leb (length bs) 16384 h)

module _ (cap : ℕ) (bs : List ℕ) (short : length bs ≤ 16384) where
  -- what the parser makes of the whole feed
  pub parsed : (f : Feed) (o : Outcome Listing) → f ≡ feed nothing (limited (scan 0 bs)) → parsing.reading (text ∷ []) (listing [] []) f ≡ o → outcome cap bs ≡ holding cap (length bs) o
  parsed f o e h = ap (holding cap (length bs)) (reads_short bs short ∙ sym (ap (parsing.reading (text ∷ []) (listing [] [])) e) ∙ h)

module _ (bs : List ℕ) (short : length bs ≤ 16384) (T : List Entry) (f : Feed) (e : f ≡ feed nothing (limited (scan 0 bs))) (s : Listing) (h : parsing.reading (text ∷ []) (listing [] []) f ≡ accepted s) where
  pub held : (b : Bool) → b ≡ (leb (length s.entries) 1024 && leb (length s.entries) (length T)) → outcome (length T) bs ≡ cond b (accepted s) (refused 8 (length bs))
  held b k = parsed (length T) bs short f (accepted s) e h ∙ ap (λ x. cond x (accepted s) (refused 8 (length bs))) (sym k)

-- what a yes and a no promise
pub record Promised (cap : ℕ) (bs : List ℕ) (T : List Entry) (r : Result ℕ Refusal) : Type 0 where
  pub is : answered r ≡ answer (outcome cap bs)
  pub table : T ≡ table_after cap (outcome cap bs)
  pub explained : Explained cap bs T r
  pub complete : Complete cap bs r

counted : (n m : ℕ) → count n ≡ count m → ◌≡◌ {A = Result ℕ Refusal} (Ok n) (Ok m)
counted n m e = let x : n ≡ m = cc in ap Ok x

promised_yes : (cap : ℕ) (bs : List ℕ) (n : ℕ) (s : Listing) → outcome cap bs ≡ accepted s → length s.entries ≡ n → Promised cap bs (laid s.entries (replicate cap blank)) (Ok n)
promised_yes cap bs n s h e = record {
  is = ap count (sym e) ∙ sym (ap answer h);
  table = sym (ap (table_after cap) h);
  explained = subst (λ m. Accepted cap bs m (laid s.entries (replicate cap blank))) e (accepts cap bs s h);
  complete = λ t l k. counted n (length (entries_of t)) (ap count (sym e) ∙ sym (ap answer h) ∙ completes cap bs t l k);
}

promised_no : (cap : ℕ) (bs : List ℕ) (e : Refusal) → outcome cap bs ≡ refused (number_of e.question) e.place → Promised cap bs (replicate cap blank) (Err e)
promised_no cap bs e h = record {
  is = sym (ap answer h);
  table = sym (ap (table_after cap) h);
  explained = (refl, refuses cap bs e.question e.place h);
  complete = λ t l k. absurd (let x : no (number_of e.question) e.place ≡ count (length (entries_of t)) = sym (ap answer h) ∙ completes cap bs t l k in let z : ◌≡◌ {A = ℕ} 0 1 = cc in omega arith);
}

-- what `read` promises of each answer, with the table as it is then
pub promise_yes : (bs : List ℕ) (r : Result ℕ Refusal) (T T1 T2 : List Entry) → is_err r ≡ false → T1 ≡ replicate (length T) blank → Nodes bs T1 T2 r → Promised (length T) bs T2 r
promise_yes bs (Ok n) T T1 T2 h e x =
    let l : length T1 ≡ length T = ap length e ∙ length-replicate (length T) blank in
    let t : T2 ≡ laid x.0.entries (replicate (length T) blank) = x.3 ∙ ap (laid x.0.entries) e in
    subst (λ v. Promised (length T) bs v (Ok n)) (sym t) (promised_yes (length T) bs n x.0 (ap (λ k. outcome k bs) (sym l) ∙ x.1) x.2)
promise_yes bs (Err r) T T1 T2 h e x = clash h

pub promise_no : (bs : List ℕ) (r : Result ℕ Refusal) (T T1 T2 T3 : List Entry) → is_err r ≡ true → T1 ≡ replicate (length T) blank → length T2 ≡ length T1 → T3 ≡ replicate (length T2) blank → Nodes bs T1 T2 r → Promised (length T) bs T3 r
promise_no bs (Ok n) T T1 T2 T3 h e k f x = clash (sym h)
promise_no bs (Err r) T T1 T2 T3 h e k f x =
    let l : length T1 ≡ length T = ap length e ∙ length-replicate (length T) blank in
    let t : T3 ≡ replicate (length T) blank = f ∙ ap (λ m. replicate m blank) (k ∙ l) in
    subst (λ v. Promised (length T) bs v (Err r)) (sym t) (promised_no (length T) bs r (ap (λ m. outcome m bs) (sym l) ∙ x))
