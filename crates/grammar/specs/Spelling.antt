-- How messages name the symbols that are only ever expected.
use Rattle.std.specs.Prelude.{ℕ, List, codes}
use Rattle.grammar.specs.declared.symbols.Mark.{Mark}
use Rattle.grammar.specs.declared.symbols.Mark.TheVariants.{Program, Var, Semicolon, Comma, Colon, Becomes, Close, Slash, Then, Do, End, Period, Stop}

abbrev pub spelled : Mark → List ℕ
spelled Program = codes "`program`"
spelled Var = codes "`var`"
spelled Semicolon = codes "`;`"
spelled Comma = codes "`,`"
spelled Colon = codes "`:`"
spelled Becomes = codes "`:=`"
spelled Close = codes "`)`"
spelled Slash = codes "`/`"
spelled Then = codes "`then`"
spelled Do = codes "`do`"
spelled End = codes "`end`"
spelled Period = codes "`.`"
spelled Stop = codes "the end of the text"
