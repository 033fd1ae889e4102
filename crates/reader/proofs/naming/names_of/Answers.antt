use Rattle.std.proofs.Common.{sym, ◌∙◌}
use Rattle.parser.specs.Feeds.{known_of}
use Rattle.reader.proofs.NamingSteps.{ends_refused, goes_on, ends_there, takes, within, spelled_as}
use Rattle.reader.proofs.naming.names_of.Goals as goal

pub returns-then-not-note : goal.returns-then-not-note
returns-then-not-note c =
    let bs = c.args.text.now in
    let l = c.loop-lexeme in
    let h = c.if-not-note.ensures in
    let e = sym (ends_there l.at.place l.at.rest.now c.in-Ok.lexeme c.in-Ok.ensures l.names c.note.new.names h) ∙ l.invariant.0 ∙ sym (within bs c.if-text-gt-MAX_TEXT.false) in
    record { is = (e, h.0); spelled = spelled_as bs (known_of c.note.new.names) e }

pub loop-lexeme-smaller : goal.loop-lexeme-smaller
loop-lexeme-smaller c =
    let l = c.loop-lexeme in
    takes l.at.place l.at.rest.now c.in-Ok.lexeme c.in-Ok.ensures l.names c.note.new.names c.if-not-note.ensures

pub loop-lexeme-preserved : goal.loop-lexeme-preserved
loop-lexeme-preserved c =
    let l = c.loop-lexeme in
    let h = c.if-not-note.ensures in
    (sym (goes_on l.at.place l.at.rest.now c.in-Ok.lexeme c.in-Ok.ensures l.names c.note.new.names h) ∙ l.invariant.0, h.0)

pub returns : goal.returns
returns c =
    let bs = c.args.text.now in
    let l = c.loop-lexeme in
    let e = sym (ends_refused l.at.place l.at.rest.now (known_of l.names) c.in_default.field-0 c.in_default.ensures) ∙ l.invariant.0 ∙ sym (within bs c.if-text-gt-MAX_TEXT.false) in
    record { is = (e, l.invariant.1); spelled = spelled_as bs (known_of l.names) e }
