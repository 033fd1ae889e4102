-- Worked examples, with the node numbers that reading their texts gives.
use Rattle.std.specs.Prelude.{◌≡◌, ℕ, List, [], ◌∷◌, pos, Some, None, Ok, Err, Option}
use Rattle.tosca.specs.declared.operators.SimpleType.TheVariants.{Integer}
use Rattle.tosca.specs.declared.operators.Value.{Value}
use Rattle.tosca.specs.declared.operators.Value.TheVariants.{Number}
use Rattle.tosca.specs.declared.operators.Binary.TheVariants.{Add, Subtract, Divide, Greater}
use Rattle.tosca.specs.declared.operators.Cause.TheVariants.{Range}
use Rattle.tosca.specs.Trees.{Expr, const, var, bin, skip, assign, seq, loop, input, output, Decl, Program}
use Rattle.aida.specs.declared.instructions.Instruction.TheVariants.{LoadConst, LoadVar, Store, BinaryOp}
use Rattle.aida.specs.declared.status.Status.TheVariants.{Spent, Finished}
use Rattle.aida.specs.declared.calls.Refusal.TheVariants.{NoSend, Ended}
use Rattle.aida.specs.declared.calls.Call.{Call}
use Rattle.aida.specs.declared.calls.Call.TheVariants.{Feed, Run, Take}
use Rattle.aida.specs.declared.calls.Answer.TheVariants.{Fed, Took, Ran}
use Rattle.aida.specs.Source.{eval, fault}
use Rattle.aida.specs.Templates.{coded, code}
use Rattle.aida.specs.Plan.{Reply, Plan, new_plan, answers, plan_after}

abbrev pub integer : ℕ → ℕ → Decl ℕ
integer n x = record { label = n; name = x; type = Integer }

abbrev pub num : ℕ → ℕ → Expr ℕ
num n k = const n (Number (pos k))

-- program p; begin end.
abbrev pub empty : Program ℕ
empty = record { label = 1; decls = []; body = skip 0 }

-- program p; var m: integer; begin m := m - 5 end.
abbrev pub lowering : Program ℕ
lowering = record { label = 5; decls = integer 0 0 ∷ []; body = assign 4 0 (bin 3 (var 1 0) Subtract (num 2 5)) }

-- program p; var m, t: integer;
-- begin read(m); t := 0; while m > 74 do begin t := t + 1; m := m - 5 end; write(t) end.
abbrev pub drying : Program ℕ
drying = record {
  label = 23;
  decls = integer 0 0 ∷ integer 1 1 ∷ [];
  body =
      seq 22
      (seq 19 (seq 5 (input 2 0) (assign 4 1 (num 3 0)))
      (loop 18 (bin 8 (var 6 0) Greater (num 7 74))
      (seq 17 (assign 12 1 (bin 11 (var 9 1) Add (num 10 1))) (assign 16 0 (bin 15 (var 13 0) Subtract (num 14 5))))))
      (output 21 (var 20 1));
}

-- (1 div 0) + (2147483647 + 1)
abbrev pub faulty : Expr ℕ
faulty = bin 6 (bin 2 (num 0 1) Divide (num 1 0)) Add (bin 5 (num 3 2147483647) Add (num 4 1))

-- the routine's answers, on a line of 64 and 64
abbrev pub answers_of : Program ℕ → List Call → List Reply
answers_of p ks = answers p 64 64 (new_plan []) ks

abbrev pub plan_of : Program ℕ → List Call → Plan
plan_of p ks = plan_after p 64 64 (new_plan []) ks

abbrev pub whole : ℕ → Option Value
whole n = Some (Number (pos n))

pub record Worked : Type 0 where
  pub empty_code : code empty ≡ []
  pub empty_run : answers_of empty (Run 0 ∷ []) ≡ Ok (Ran Finished 0) ∷ []
  pub lowering_code :
      code lowering ≡ coded 2 (LoadConst (pos 5)) ∷ coded 3 (Store 64) ∷ coded 1 (LoadVar 0) ∷ coded 3 (BinaryOp Subtract 64) ∷ coded 4 (Store 0) ∷ []
  pub drying_spent : (plan_of drying (Feed (pos 86) ∷ Run 2 ∷ [])).stop ≡ Spent
  pub drying_m : (plan_of drying (Feed (pos 86) ∷ Run 2 ∷ [])).variables 0 ≡ whole 71
  pub drying_t : (plan_of drying (Feed (pos 86) ∷ Run 2 ∷ [])).variables 1 ≡ whole 3
  pub drying_sent : (plan_of drying (Feed (pos 86) ∷ Run 2 ∷ [])).sent ≡ []
  pub drying_answers :
      answers_of drying (Feed (pos 86) ∷ Run 2 ∷ Take ∷ Run 3 ∷ Take ∷ Run 1 ∷ []) ≡ Ok Fed ∷ Ok (Ran Spent 2) ∷ Err NoSend ∷ Ok (Ran Finished 3) ∷ Ok (Took (pos 3)) ∷ Err Ended ∷ []
  pub drying_at_once : answers_of drying (Feed (pos 86) ∷ Run 3 ∷ Take ∷ []) ≡ Ok Fed ∷ Ok (Ran Finished 3) ∷ Ok (Took (pos 3)) ∷ []
  -- the right operand first: cause 1, at the second `+`
  pub right_first : eval (λ x. None) faulty ≡ fault Range 5
