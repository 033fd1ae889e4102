-- What passes the check is typed, set and fits, as the laws of the code ask.
use Rattle.std.proofs.Common.{◌≡◌, ℕ, ◌<◌, ◌≤◌, Bool, true, false, not, List, [], ◌∷◌, ◌++◌, refl, ap, inl, inr}
use Rattle.tosca.specs.Trees.{Expr, const, var, uny, bin, Cmd, skip, assign, seq, choice, loop, input, output, Program}
use Rattle.tosca.specs.declared.table.Entry.{Entry}
use Rattle.tosca.specs.Decode.{program_of}
use Rattle.tosca.specs.Opens.{sort}
use Rattle.draft.specs.Forming.{is_formed}
use Rattle.draft.specs.Subtrees.{InExpr, ExprIn}
use Rattle.draft.proofs.Facts.{var_fact, assign_fact, input_fact}
use Rattle.draft.proofs.Tree.{in_self, lists_expr_in, lists_cmd_in, expr_stands, cmd_stands, body_lists}
use Rattle.statics.specs.Choosing.{picked, chosen_in}
use Rattle.statics.specs.Temporaries.{need}
use Rattle.statics.specs.Setting.{Vars, no_vars, after, unset_in, unset}
use Rattle.statics.specs.StaticLaws.{Sound}
use Rattle.statics.proofs.Lists.{none_among}
use Rattle.statics.proofs.Paths.{found_unset}
use Rattle.statics.proofs.Judging.{static_laws}
use Rattle.agreement.specs.Premises.{ExprSet, CmdSet, ExprNames, ExprFits, CmdFits, Checked}
use Rattle.agreement.proofs.Parts.{Each, first_of, second_of, then_of, else_of, body_of}
use Rattle.agreement.proofs.Addresses.{all_addressed_lem}
use Rattle.agreement.proofs.Typing.{never_stuck}
use Rattle.agreement.proofs.Agree.{agreement}
use Rattle.agreement.specs.Passed.{Passed, PassedCode, PassedRuns, PassedAgreement}

-- Names and temporaries

abbrev Below : ℕ → Type 0
Below x = x < 64

named_expr : (e : Expr ℕ) → ((k x : ℕ) → InExpr (var k x) e → x < 64) → ExprNames e
named_expr (const n v) f = tt
named_expr (var n x) f = f n x refl
named_expr (uny n o e) f = named_expr e (λ k x h. f k x (inr h))
named_expr (bin n a o b) f = (named_expr a (λ k x h. f k x (inr (inl h))), named_expr b (λ k x h. f k x (inr (inr h))))

fits_expr : (e : Expr ℕ) → ((k x : ℕ) → InExpr (var k x) e → x < 64) → need e ≤ 32 → ExprFits e
fits_expr e f le = (named_expr e f, le)

abbrev Few : Cmd ℕ → Type 0
Few c = (e : Expr ℕ) → ExprIn e c → need e ≤ 32

fits_cmd : (c : Cmd ℕ) → Each Below c → Few c → CmdFits c
fits_cmd (skip n) b f = tt
fits_cmd (assign n x e) b f = (b x (n, inr (inl (e, refl))), fits_expr e (λ k y h. b y (k, inl h)) (f e (in_self e)))
fits_cmd (seq n c d) b f = (fits_cmd c (first_of Below n c d b) (λ e h. f e (inl h)), fits_cmd d (second_of Below n c d b) (λ e h. f e (inr h)))
fits_cmd (choice n e c d) b f = (
  fits_expr e (λ k y h. b y (k, inl (inl h))) (f e (inl (in_self e))),
  fits_cmd c (then_of Below n e c d b) (λ s h. f s (inr (inl h))),
  fits_cmd d (else_of Below n e c d b) (λ s h. f s (inr (inr h))),
)
fits_cmd (loop n e c) b f = (fits_expr e (λ k y h. b y (k, inl (inl h))) (f e (inl (in_self e))), fits_cmd c (body_of Below n e c b) (λ s h. f s (inr h)))
fits_cmd (input n x) b f = b x (n, inr (inr refl))
fits_cmd (output n e) b f = fits_expr e (λ k y h. b y (k, inl h)) (f e (in_self e))

-- Variables that are set

left_none : (xs ys : List ℕ) → xs ++ ys ≡ [] → xs ≡ []
left_none [] ys e = refl
left_none (x ∷ xs) ys e = cc

right_none : (xs ys : List ℕ) → xs ++ ys ≡ [] → ys ≡ []
right_none [] ys e = e
right_none (x ∷ xs) ys e = cc

is_set : (n : ℕ) (b : Bool) → picked n (not b) ≡ [] → b ≡ true
is_set n true e = refl
is_set n false e = cc

set_expr : (s : Vars) (e : Expr ℕ) → unset_in s e ≡ [] → ExprSet s e
unfolding chosen_in
set_expr s (const n v) h = tt
set_expr s (var n x) h = is_set n (s x) h
set_expr s (uny n o e) h = set_expr s e (left_none (unset_in s e) _ h)
set_expr s (bin n a o b) h =
    (set_expr s a (left_none (unset_in s a) _ h), set_expr s b (left_none (unset_in s b) _ (right_none (unset_in s a) _ h)))

set_cmd : (s : Vars) (c : Cmd ℕ) → unset s c ≡ [] → CmdSet s c
unfolding unset
set_cmd s (skip n) h = tt
set_cmd s (assign n x e) h = set_expr s e h
set_cmd s (seq n a b) h =
    (set_cmd s a (left_none (unset s a) _ h), set_cmd (after a s) b (right_none (unset s a) _ h))
set_cmd s (choice n e a b) h =
    let r = right_none (unset_in s e) _ h in
    (set_expr s e (left_none (unset_in s e) _ h), set_cmd s a (left_none (unset s a) _ r), set_cmd s b (right_none (unset s a) _ r))
set_cmd s (loop n e b) h = (set_expr s e (left_none (unset_in s e) _ h), set_cmd s b (right_none (unset_in s e) _ h))
set_cmd s (input n x) h = tt
set_cmd s (output n e) h = set_expr s e h

-- Together

-- the names of a formed table are below 64
below : (t : List Entry) → is_formed t ≡ true → Each Below (program_of t).body
below t f x (k, inl h) =
    let e = lists_expr_in t (var k x) (program_of t).body h (body_lists t f) in
    var_fact t f k (expr_stands t k (ap sort e)) e
below t f x (k, inr (inl h)) =
    let e = (lists_cmd_in t (assign k x h.0) (program_of t).body h.1 (body_lists t f)).0 in
    (assign_fact t f k (cmd_stands t k (ap sort e)) e).0
below t f x (k, inr (inr h)) =
    let e = lists_cmd_in t (input k x) (program_of t).body h (body_lists t f) in
    input_fact t f k (cmd_stands t k (ap sort e)) e

sound_checked : (p : Program ℕ) → Sound p → Each Below p.body → Checked p
sound_checked p s b = record {
  declared = s.declared;
  typed = s.typed;
  set = set_cmd no_vars p.body (none_among (unset no_vars p.body) (λ k h. s.set k (found_unset p.body k h)));
  fits = fits_cmd p.body b s.few;
}

pub passed_checked : (t : List Entry) → Passed t → Checked (program_of t)
passed_checked t q = sound_checked (program_of t) ((static_laws (program_of t)).passing.to q.passes) (below t q.formed)

pub passed_code : PassedCode
passed_code t q = all_addressed_lem (program_of t) (passed_checked t q).fits

pub passed_runs : PassedRuns
passed_runs t q = never_stuck (program_of t) (passed_checked t q)

pub passed_agreement : PassedAgreement
passed_agreement t q = agreement (program_of t) (passed_checked t q)
