use Rattle.std.proofs.Common.{◌+◌, sym, ap₂, ◌∙◌, length-drop, arith}
use Rattle.lexer.specs.Lexemes.{skip}
use Rattle.lexer.proofs.Comments.{closed, endless}
use Rattle.lexer.proofs.cursor.Cursor.after_comment.Goals as goal

pub returns-in_err-n : goal.returns-in_err-n
returns-in_err-n c = rw c.from_residual.ensures (λ o. endless o c.args.self.place c.args.self.rest.now c.in_err-n.ensures)

pub returns : goal.returns
returns c =
    let n = c.in_ok-n.n in
    let xs = c.args.self.rest.now in
    (λ o. closed o c.args.self.place n xs c.in_ok-n.ensures ∙ ap₂ skip (sym c.advanced.ensures.place) (sym c.advanced.ensures.rest), rw c.advanced.ensures.rest (omega (arith, length-drop (n + 1) xs)))
