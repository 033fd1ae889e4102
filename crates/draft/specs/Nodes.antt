-- The sort and the parts of a node as the program holds them, in the words of the questions.
use Rattle.std.specs.Prelude.{List, map, Some, None, Option}
use Rattle.std.specs.List.{flat_map}
use Rattle.std.specs.Option.{option_to_list}
use Rattle.tosca.specs.Opens.{Sort, is_decl, is_expr, is_cmd, is_program, is_none, Part}
use Rattle.draft.specs.declared.nodes.Sort.{Sort as NodeSort}
use Rattle.draft.specs.declared.nodes.Sort.TheVariants.{Declaration, Expression, Command, Program}
use Rattle.draft.specs.declared.nodes.Part.{Part as NodePart}

-- the sort that an entry has, or that it is no node
abbrev pub sort_of : Option NodeSort → Sort
sort_of (Some Declaration) = is_decl
sort_of (Some Expression) = is_expr
sort_of (Some Command) = is_cmd
sort_of (Some Program) = is_program
sort_of None = is_none

-- a part with the sort that it must have
abbrev pub part_of : NodePart → Part
part_of p = record { at = p.at; wants = sort_of (Some p.wants) }

-- the parts that there are, in their order
abbrev pub parts_of : List (Option NodePart) → List Part
parts_of ps = map part_of (flat_map option_to_list ps)
