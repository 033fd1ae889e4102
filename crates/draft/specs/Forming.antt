-- The questions 12, 13 and 14 of entries, as one test.
use Rattle.std.specs.Prelude.{Bool, ◌&&◌, List}
use Rattle.tosca.specs.declared.table.Entry.{Entry}
use Rattle.tosca.specs.Opens.{are_known, are_placed, arranged}

unfoldable pub is_formed : List Entry → Bool
is_formed t = are_known t && (are_placed t 0 t && arranged t)
