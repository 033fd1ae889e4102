-- A text has one tree: the automaton builds it.
use Rattle.std.proofs.Common.{◌≡◌, ℕ, List, [], ◌∷◌, ◌++◌, sym, refl, ap, ◌∙◌, append_assoc, append-nil}
use Rattle.tosca.specs.Trees.{Expr, const, var, uny, bin, Cmd, skip, assign, seq, choice, loop, input, output, Decl}
use Rattle.tosca.specs.Trees as tree
use Rattle.grammar.specs.Tokens.{yes}
use Rattle.grammar.specs.Building.{Act, a_const, a_var, a_uny, a_bin, a_skip, a_assign, a_seq, a_choice, a_loop, a_input, a_output, a_decl, a_program, declares, build_e, build_c, builds}
use Rattle.grammar.specs.Automaton.{text, run}
use Rattle.grammar.specs.Limits.{OneTree}
use Rattle.grammar.proofs.Watches.{plain}
use Rattle.grammar.proofs.Follow.{text_accepted}

-- trees as what is built, the last first; declarations in their order
record Grove : Type 0 where
  pub exprs : List (Expr ℕ)
  pub cmds : List (Cmd ℕ)
  pub decls : List (Decl ℕ)
  pub programs : List (tree.Program ℕ)

abbrev grove : List (Expr ℕ) → List (Cmd ℕ) → List (Decl ℕ) → List (tree.Program ℕ) → Grove
grove es cs ds ps = record { exprs = es; cmds = cs; decls = ds; programs = ps }

abbrev one : {A : Type 0} → List A → (A → Grove) → Grove
one [] f = grove [] [] [] []
one (a ∷ l) f = f a

abbrev two : {A : Type 0} → List A → (A → A → List A → Grove) → Grove
two [] f = grove [] [] [] []
two (b ∷ []) f = grove [] [] [] []
two (b ∷ a ∷ l) f = f a b l

abbrev rest : {A : Type 0} → List A → List A
rest [] = []
rest (a ∷ l) = l

abbrev plant : Act → List (Expr ℕ) → List (Cmd ℕ) → List (Decl ℕ) → List (tree.Program ℕ) → Grove
plant (a_const p v) es cs ds ps = grove (const p v ∷ es) cs ds ps
plant (a_var p n) es cs ds ps = grove (var p n ∷ es) cs ds ps
plant (a_uny p u) es cs ds ps = one es (λ a. grove (uny p u a ∷ rest es) cs ds ps)
plant (a_bin p o) es cs ds ps = two es (λ a b xs. grove (bin p a o b ∷ xs) cs ds ps)
plant (a_skip p) es cs ds ps = grove es (skip p ∷ cs) ds ps
plant (a_assign p n) es cs ds ps = one es (λ a. grove (rest es) (assign p n a ∷ cs) ds ps)
plant (a_seq p) es cs ds ps = two cs (λ a b xs. grove es (seq p a b ∷ xs) ds ps)
plant (a_choice p) es cs ds ps = one es (λ a. two cs (λ b d xs. grove (rest es) (choice p a b d ∷ xs) ds ps))
plant (a_loop p) es cs ds ps = one es (λ a. one cs (λ b. grove (rest es) (loop p a b ∷ rest cs) ds ps))
plant (a_input p n) es cs ds ps = grove es (input p n ∷ cs) ds ps
plant (a_output p) es cs ds ps = one es (λ a. grove (rest es) (output p a ∷ cs) ds ps)
plant (a_decl d) es cs ds ps = grove es cs (ds ++ (d ∷ [])) ps
plant (a_program p) es cs ds ps = one cs (λ a. grove [] [] [] (record { label = p; decls = ds; body = a } ∷ ps))

abbrev planting : Act → Grove → Grove
planting a g = plant a g.exprs g.cmds g.decls g.programs

declared : (xs ds : List (Decl ℕ)) → declares planting ds (grove [] [] xs []) ≡ grove [] [] (xs ++ ds) []
declared xs [] = ap (λ v. grove [] [] v []) (sym (append-nil xs))
declared xs (d ∷ ds) = declared (xs ++ (d ∷ [])) ds ∙ ap (λ v. grove [] [] v []) (append_assoc xs (d ∷ []) ds)

grows : (t : Expr ℕ) (es : List (Expr ℕ)) (cs : List (Cmd ℕ)) (ds : List (Decl ℕ)) → build_e planting t (grove es cs ds []) ≡ grove (t ∷ es) cs ds []
grows (const p v) es cs ds = refl
grows (var p n) es cs ds = refl
grows (uny p u a) es cs ds = ap (planting (a_uny p u)) (grows a es cs ds)
grows (bin p a o b) es cs ds = ap (λ x. planting (a_bin p o) (build_e planting b x)) (grows a es cs ds) ∙ ap (planting (a_bin p o)) (grows b (a ∷ es) cs ds)

grows_cmd : (t : Cmd ℕ) (es : List (Expr ℕ)) (cs : List (Cmd ℕ)) (ds : List (Decl ℕ)) → build_c planting t (grove es cs ds []) ≡ grove es (t ∷ cs) ds []
grows_cmd (skip p) es cs ds = refl
grows_cmd (assign p n a) es cs ds = ap (planting (a_assign p n)) (grows a es cs ds)
grows_cmd (seq p a b) es cs ds = ap (λ x. planting (a_seq p) (build_c planting b x)) (grows_cmd a es cs ds) ∙ ap (planting (a_seq p)) (grows_cmd b es (a ∷ cs) ds)
grows_cmd (choice p a b d) es cs ds =
    ap (λ x. planting (a_choice p) (build_c planting d (build_c planting b x))) (grows a es cs ds)
    ∙ ap (λ x. planting (a_choice p) (build_c planting d x)) (grows_cmd b (a ∷ es) cs ds)
    ∙ ap (planting (a_choice p)) (grows_cmd d (a ∷ es) (b ∷ cs) ds)
grows_cmd (loop p a b) es cs ds = ap (λ x. planting (a_loop p) (build_c planting b x)) (grows a es cs ds) ∙ ap (planting (a_loop p)) (grows_cmd b (a ∷ es) cs ds)
grows_cmd (input p n) es cs ds = refl
grows_cmd (output p a) es cs ds = ap (planting (a_output p)) (grows a es cs ds)

grown : (t : tree.Program ℕ) → builds planting t (grove [] [] [] []) ≡ grove [] [] [] (t ∷ [])
grown t = ap (λ x. planting (a_program t.label) (build_c planting t.body x)) (declared [] t.decls) ∙ ap (planting (a_program t.label)) (grows_cmd t.body [] [] t.decls)

pub one_tree : OneTree
one_tree ts t u d e =
    let none = grove [] [] [] [] in
    let x : run planting plain (text ∷ []) none ts ≡ yes (grove [] [] [] (t ∷ [])) = text_accepted planting none ts t d ∙ ap yes (grown t) in
    let y : run planting plain (text ∷ []) none ts ≡ yes (grove [] [] [] (u ∷ [])) = text_accepted planting none ts u e ∙ ap yes (grown u) in
    let same : ◌≡◌ {A = Grove} (grove [] [] [] (t ∷ [])) (grove [] [] [] (u ∷ [])) = cc in
    let heads : ◌≡◌ {A = List (tree.Program ℕ)} (t ∷ []) (u ∷ []) = ap (λ g. g.programs) same in
    cc
