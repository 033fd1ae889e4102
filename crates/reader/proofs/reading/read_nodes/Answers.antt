use Rattle.std.proofs.Common.{◌≡◌, ℕ, Bool, true, false, ◌&&◌, leb, List, length, sym, ap, ◌∙◌}
use Rattle.tosca.specs.declared.table.Entry.{Entry}
use Rattle.grammar.specs.Listing.{Listing}
use Rattle.std.proofs.lemmas.Result.{err_from_is_err_and}
use Rattle.lexer.specs.Lexemes.{number_of}
use Rattle.grammar.specs.Limits.{refused}
use Rattle.parser.specs.Feeds.{ahead}
use Rattle.reader.proofs.Outcomes.{too_long, parsed, held}
use Rattle.reader.proofs.reading.read_nodes.Goals as goal

pub returns-then-text-gt-MAX_TEXT : goal.returns-then-text-gt-MAX_TEXT
returns-then-text-gt-MAX_TEXT c = too_long (length c.args.table.now) c.args.text.now c.if-text-gt-MAX_TEXT.true

pub program-requires : goal.program-requires
program-requires c = let b = c.in_ok-parser.ensures in (b.ready, b.count)

pub returns-in_err-program : goal.returns-in_err-program
returns-in_err-program c =
    let x = err_from_is_err_and c.from_residual-in_err-program.result c.from_residual-in_err-program.ensures.1 in
    let e = c.in_err-program.field-0.0 in
    let b = c.in_ok-parser.ensures in
    rw (x.1, x.2) (parsed (length c.args.table.now) c.args.text.now c.if-text-gt-MAX_TEXT.false (ahead c.in_ok-parser.parser) (refused (number_of e.question) e.place) b.tokens c.in_err-program.ensures)

-- whether the table holds the nodes, in the words of the outcome
holding : (T T' : List Entry) (s : Listing) (n : ℕ) (b : Bool) → length T' ≡ length T → length s.entries ≡ n → b ≡ (leb n 1024 && leb n (length T')) → b ≡ (leb (length s.entries) 1024 && leb (length s.entries) (length T))
holding T T' s n b k e h = h ∙ ap (λ m. leb m 1024 && leb m (length T')) (sym e) ∙ ap (λ l. leb (length s.entries) 1024 && leb (length s.entries) l) k

pub returns-then-not-holds : goal.returns-then-not-holds
returns-then-not-holds c =
    let b = c.in_ok-parser.ensures in
    let w = c.in_ok-program.ensures in
    let n = w.1.0 ∙ sym c.from-count.ensures in
    held c.args.text.now c.if-text-gt-MAX_TEXT.false c.args.table.now (ahead c.in_ok-parser.parser) b.tokens w.0 w.2 false (holding c.args.table.now c.program.new.table w.0 c.from-count.result false c.program.auto.table n c.if-not-holds.ensures)

pub returns : goal.returns
returns c =
    let b = c.in_ok-parser.ensures in
    let w = c.in_ok-program.ensures in
    let n = w.1.0 ∙ sym c.from-count.ensures in
    (w.0, held c.args.text.now c.if-text-gt-MAX_TEXT.false c.args.table.now (ahead c.in_ok-parser.parser) b.tokens w.0 w.2 true (holding c.args.table.now c.program.new.table w.0 c.from-count.result true c.program.auto.table n c.if-not-holds.ensures), n, w.1.1)
