-- The code table's format: what each entry of numbers says, and which numbers say it.
use Rattle.std.specs.Prelude.{ℕ, cond, ℤ, pos, Some, None, Option, ◌==◌}
use Rattle.std.specs.Option.{option_map}
use Rattle.tosca.specs.Table.{unary_code, unary_of, binary_code, binary_of}
use Rattle.aida.specs.declared.instructions.Instruction.{Instruction}
use Rattle.aida.specs.declared.instructions.Instruction.TheVariants.{LoadConst, LoadVar, Store, UnaryOp, BinaryOp, Input, InputBit, Output, Jump, Goto}
use Rattle.aida.specs.declared.instructions.Coded.{Coded}
use Rattle.aida.specs.Templates.{coded}
use Rattle.code.specs.declared.table.CodeEntry.{CodeEntry}

-- an entry by its six fields
abbrev pub code_fields : ℕ → ℕ → ℤ → ℕ → ℕ → ℕ → CodeEntry
code_fields k o v c t n = record { kind = k; op = o; value = v; cell = c; target = t; node = n }

-- an entry that is no instruction
abbrev pub no_code : CodeEntry
no_code = code_fields 0 0 (pos 0) 0 0 0

-- the entry of an instruction that belongs to the node n
abbrev pub entry_for : Instruction → ℕ → CodeEntry
entry_for (LoadConst v) n = code_fields 1 0 v 0 0 n
entry_for (LoadVar c) n = code_fields 2 0 (pos 0) c 0 n
entry_for (Store c) n = code_fields 3 0 (pos 0) c 0 n
entry_for (UnaryOp o) n = code_fields 4 (unary_code o) (pos 0) 0 0 n
entry_for (BinaryOp o c) n = code_fields 5 (binary_code o) (pos 0) c 0 n
entry_for Input n = code_fields 6 0 (pos 0) 0 0 n
entry_for InputBit n = code_fields 7 0 (pos 0) 0 0 n
entry_for Output n = code_fields 8 0 (pos 0) 0 0 n
entry_for (Jump t) n = code_fields 9 0 (pos 0) 0 t n
entry_for (Goto t) n = code_fields 10 0 (pos 0) 0 t n

abbrev pub code_entry : Coded → CodeEntry
code_entry i = entry_for i.instruction i.node

-- the instruction of an entry, whatever stands in the fields that its kind lacks
abbrev pub instruction_of : CodeEntry → Option Instruction
instruction_of e =
    cond (e.kind == 1) (Some (LoadConst e.value))
    (cond (e.kind == 2) (Some (LoadVar e.cell))
    (cond (e.kind == 3) (Some (Store e.cell))
    (cond (e.kind == 4) (option_map (λ o. UnaryOp o) (unary_of e.op))
    (cond (e.kind == 5) (option_map (λ o. BinaryOp o e.cell) (binary_of e.op))
    (cond (e.kind == 6) (Some Input)
    (cond (e.kind == 7) (Some InputBit)
    (cond (e.kind == 8) (Some Output)
    (cond (e.kind == 9) (Some (Jump e.target))
    (cond (e.kind == 10) (Some (Goto e.target)) None)))))))))

-- with its node
abbrev pub coded_of : CodeEntry → Option Coded
coded_of e = option_map (coded e.node) (instruction_of e)
