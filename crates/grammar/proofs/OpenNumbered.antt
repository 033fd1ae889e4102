-- The table that is listed of a tree stands for that tree, numbered.
use Rattle.std.proofs.Common.{◌≡◌, ℕ, suc, ◌-◌, ◌≤◌, List, [], ◌∷◌, ◌++◌, length, get_or, Some, Option, sym, refl, ap, ◌∙◌, subst, ap₂, arith}
use Rattle.std.proofs.lemmas.List.{length_push, append_assoc, append-nil, get_or_at}
use Rattle.tosca.specs.declared.table.Entry.{Entry}
use Rattle.tosca.specs.declared.table.Node.{Node}
use Rattle.tosca.specs.declared.table.Node.TheVariants.{Decl, Const, Var, Uny, Bin, Skip, Assign, Seq, Choice, Loop, Input, Output, Program}
use Rattle.tosca.specs.Table.{blank, entry, node}
use Rattle.tosca.specs.Trees.{Expr, const, var, uny, bin, Cmd, skip, assign, seq, choice, loop, input, output}
use Rattle.tosca.specs.Trees as tree
use Rattle.tosca.specs.Decode.{expr_at, cmd_at, declared, decls_from, body_of, program_of}
use Rattle.grammar.specs.Building.{declares, build_e, build_c, builds}
use Rattle.grammar.specs.Listing.{Listing, listing, adds, one, two, three, list, entries_of}
use Rattle.grammar.specs.Numbered.{last_e, last_c, number_e, number_c, number_ds, numbered}
use Rattle.tosca.proofs.Entries.{entry_said}
use Rattle.tosca.proofs.Decoding.{expr_const, expr_var, expr_uny, expr_bin, cmd_skip, cmd_assign, cmd_seq, cmd_choice, cmd_loop, cmd_input, cmd_output}

record Begins (es t : List Entry) : Type 0 where
  rest : List Entry
  is : t ≡ es ++ rest

begins_on : {a b c : List Entry} → Begins a b → Begins b c → Begins a c
begins_on {a} {b} {c} h k = record { rest = h.rest ++ k.rest; is = k.is ∙ ap (λ (z : List Entry). z ++ k.rest) h.is ∙ append_assoc a h.rest k.rest }

-- from one listing to another: one more loose entry r, which is the node n, and it is the last; no declaration is added
record Grown (l m : Listing) (r : ℕ) (n : Node) : Type 0 where
  loose : m.loose ≡ r ∷ l.loose
  count : length m.entries ≡ suc r
  begins : Begins l.entries m.entries
  root : (t : List Entry) → Begins m.entries t → node (get_or t r blank) ≡ Some n
  quiet : (k : ℕ) → decls_from k m.entries ≡ decls_from k l.entries

abbrev Quiet : Node → Type 0
Quiet n = (k : ℕ) (ds : List (tree.Decl ℕ)) → declared k (Some n) ds ≡ ds

quiet_push : (n : Node) (p : ℕ) → Quiet n → (k : ℕ) (es : List Entry) → decls_from k (es ++ (entry n p ∷ [])) ≡ decls_from k es
unfolding decls_from
quiet_push n p q k [] = ap (λ (x : Option Node). declared k x []) (entry_said n p) ∙ q k []
quiet_push n p q k (e ∷ es) = ap (declared k (node e)) (quiet_push n p q (suc k) es)

-- an entry after the entries es, which have grown from those of l
module _ (l : Listing) (es : List Entry) (b : Begins l.entries es) (h : (k : ℕ) → decls_from k es ≡ decls_from k l.entries) where
  push : (n : Node) (p r : ℕ) → length es ≡ r → Quiet n → Grown l (adds n p l.loose es) r n
  push n p r e q =
      let x = entry n p in
      record {
        loose = ap {B = List ℕ} (λ (a : ℕ). a ∷ l.loose) e;
        count = omega (arith, length_push es x, e);
        begins = begins_on b (record { rest = x ∷ []; is = refl });
        root = λ t c. ap (λ (z : List Entry). node (get_or z r blank)) (c.is ∙ append_assoc es (x ∷ []) c.rest) ∙ ap node (get_or_at es x c.rest blank r e) ∙ entry_said n p;
        quiet = λ k. quiet_push n p q k es ∙ h k;
      }

-- a node without parts, and with one, two and three that were built
grow_zero : (l : Listing) (n : Node) (p b : ℕ) → length l.entries ≡ b → Quiet n → Grown l (adds n p l.loose l.entries) b n
grow_zero l n p b e q = push l l.entries (record { rest = []; is = sym (append-nil l.entries) }) (λ k. refl) n p b e q

module _ {l m : Listing} {r : ℕ} {n : Node} (g : Grown l m r n) where
  grow_one : (f : ℕ → Node) (p : ℕ) → Quiet (f r) → Grown l (one m.entries m.loose p f) (suc r) (f r)
  grow_one f p q = subst (λ V. Grown l (one m.entries V p f) (suc r) (f r)) (sym g.loose) (push l m.entries g.begins g.quiet (f r) p (suc r) g.count q)

  module _ {m₂ : Listing} {r₂ : ℕ} {n₂ : Node} (g₂ : Grown m m₂ r₂ n₂) where
    grow_two : (f : ℕ → ℕ → Node) (p : ℕ) → Quiet (f r r₂) → Grown l (two m₂.entries m₂.loose p f) (suc r₂) (f r r₂)
    grow_two f p q =
        subst (λ V. Grown l (two m₂.entries V p f) (suc r₂) (f r r₂)) (sym (g₂.loose ∙ ap {B = List ℕ} (λ V. r₂ ∷ V) g.loose))
        (push l m₂.entries (begins_on g.begins g₂.begins) (λ k. g₂.quiet k ∙ g.quiet k) (f r r₂) p (suc r₂) g₂.count q)

    grow_three : {m₃ : Listing} {r₃ : ℕ} {n₃ : Node} → Grown m₂ m₃ r₃ n₃ → (f : ℕ → ℕ → ℕ → Node) (p : ℕ) → Quiet (f r r₂ r₃) → Grown l (three m₃.entries m₃.loose p f) (suc r₃) (f r r₂ r₃)
    grow_three {m₃} {r₃} g₃ f p q =
        subst (λ V. Grown l (three m₃.entries V p f) (suc r₃) (f r r₂ r₃)) (sym (g₃.loose ∙ ap {B = List ℕ} (λ V. r₃ ∷ V) (g₂.loose ∙ ap {B = List ℕ} (λ V. r₂ ∷ V) g.loose)))
        (push l m₃.entries (begins_on (begins_on g.begins g₂.begins) g₃.begins) (λ k. g₃.quiet k ∙ g₂.quiet k ∙ g.quiet k) (f r r₂ r₃) p (suc r₃) g₃.count q)

-- the root of a tree
abbrev root_e : ℕ → Expr ℕ → Node
root_e b (const p v) = Const v
root_e b (var p x) = Var x
root_e b (uny p o a) = Uny o (last_e b a)
root_e b (bin p a o c) = Bin (last_e b a) o (last_e (suc (last_e b a)) c)

abbrev root_c : ℕ → Cmd ℕ → Node
root_c b (skip p) = Skip
root_c b (assign p x a) = Assign x (last_e b a)
root_c b (seq p a c) = Seq (last_c b a) (last_c (suc (last_c b a)) c)
root_c b (choice p a c d) = Choice (last_e b a) (last_c (suc (last_e b a)) c) (last_c (suc (last_c (suc (last_e b a)) c)) d)
root_c b (loop p a c) = Loop (last_e b a) (last_c (suc (last_e b a)) c)
root_c b (input p x) = Input x
root_c b (output p a) = Output (last_e b a)

grows_expr : (a : Expr ℕ) (b : ℕ) (l : Listing) → length l.entries ≡ b → Grown l (build_e list a l) (last_e b a) (root_e b a)
grows_expr (const p v) b l e = grow_zero l (Const v) p b e (λ k ds. refl)
grows_expr (var p x) b l e = grow_zero l (Var x) p b e (λ k ds. refl)
grows_expr (uny p o a) b l e = grow_one (grows_expr a b l e) (λ i. Uny o i) p (λ k ds. refl)
grows_expr (bin p a o c) b l e =
    let g = grows_expr a b l e in
    grow_two g (grows_expr c (suc (last_e b a)) (build_e list a l) g.count) (λ i j. Bin i o j) p (λ k ds. refl)

grows_cmd : (a : Cmd ℕ) (b : ℕ) (l : Listing) → length l.entries ≡ b → Grown l (build_c list a l) (last_c b a) (root_c b a)
grows_cmd (skip p) b l e = grow_zero l Skip p b e (λ k ds. refl)
grows_cmd (assign p x a) b l e = grow_one (grows_expr a b l e) (λ i. Assign x i) p (λ k ds. refl)
grows_cmd (seq p a c) b l e =
    let g = grows_cmd a b l e in
    grow_two g (grows_cmd c (suc (last_c b a)) (build_c list a l) g.count) (λ i j. Seq i j) p (λ k ds. refl)
grows_cmd (choice p a c d) b l e =
    let g = grows_expr a b l e in
    let h = grows_cmd c (suc (last_e b a)) (build_e list a l) g.count in
    grow_three g h (grows_cmd d (suc (last_c (suc (last_e b a)) c)) (build_c list c (build_e list a l)) h.count) (λ i j k. Choice i j k) p (λ k ds. refl)
grows_cmd (loop p a c) b l e =
    let g = grows_expr a b l e in
    grow_two g (grows_cmd c (suc (last_e b a)) (build_e list a l) g.count) (λ i j. Loop i j) p (λ k ds. refl)
grows_cmd (input p x) b l e = grow_zero l (Input x) p b e (λ k ds. refl)
grows_cmd (output p a) b l e = grow_one (grows_expr a b l e) (λ i. Output i) p (λ k ds. refl)

above_expr : (b : ℕ) (a : Expr ℕ) → b ≤ last_e b a
above_expr b (const p v) = omega arith
above_expr b (var p x) = omega arith
above_expr b (uny p o a) = omega (arith, above_expr b a)
above_expr b (bin p a o c) = omega (arith, above_expr b a, above_expr (suc (last_e b a)) c)

above_cmd : (b : ℕ) (a : Cmd ℕ) → b ≤ last_c b a
above_cmd b (skip p) = omega arith
above_cmd b (assign p x a) = omega (arith, above_expr b a)
above_cmd b (seq p a c) = omega (arith, above_cmd b a, above_cmd (suc (last_c b a)) c)
above_cmd b (choice p a c d) = omega (arith, above_expr b a, above_cmd (suc (last_e b a)) c, above_cmd (suc (last_c (suc (last_e b a)) c)) d)
above_cmd b (loop p a c) = omega (arith, above_expr b a, above_cmd (suc (last_e b a)) c)
above_cmd b (input p x) = omega arith
above_cmd b (output p a) = omega (arith, above_expr b a)

begins_one : (es : List Entry) (V : List ℕ) (p : ℕ) (f : ℕ → Node) → Begins es (one es V p f).entries
begins_one es [] p f = record { rest = []; is = sym (append-nil es) }
begins_one es (a ∷ V) p f = record { rest = _; is = refl }

begins_two : (es : List Entry) (V : List ℕ) (p : ℕ) (f : ℕ → ℕ → Node) → Begins es (two es V p f).entries
begins_two es [] p f = record { rest = []; is = sym (append-nil es) }
begins_two es (b ∷ []) p f = record { rest = []; is = sym (append-nil es) }
begins_two es (b ∷ a ∷ V) p f = record { rest = _; is = refl }

begins_three : (es : List Entry) (V : List ℕ) (p : ℕ) (f : ℕ → ℕ → ℕ → Node) → Begins es (three es V p f).entries
begins_three es [] p f = record { rest = []; is = sym (append-nil es) }
begins_three es (c ∷ []) p f = record { rest = []; is = sym (append-nil es) }
begins_three es (c ∷ b ∷ []) p f = record { rest = []; is = sym (append-nil es) }
begins_three es (c ∷ b ∷ a ∷ V) p f = record { rest = _; is = refl }

-- a table that begins with the entries of a tree has the numbered tree at its root
module _ (t : List Entry) where
  reads_expr : (a : Expr ℕ) (b : ℕ) (l : Listing) → length l.entries ≡ b → Begins (build_e list a l).entries t → expr_at t (last_e b a) ≡ number_e b a
  reads_expr (const p v) b l e h = expr_const t b v ((grows_expr (const p v) b l e).root t h)
  reads_expr (var p x) b l e h = expr_var t b x ((grows_expr (var p x) b l e).root t h)
  reads_expr (uny p o a) b l e h =
      let l₁ = build_e list a l in
      let i = last_e b a in
      expr_uny t (suc i) o i ((grows_expr (uny p o a) b l e).root t h) (omega arith)
      ∙ ap (λ (z : Expr ℕ). uny (suc i) o z) (reads_expr a b l e (begins_on (begins_one l₁.entries l₁.loose p (λ j. Uny o j)) h))
  reads_expr (bin p a o c) b l e h =
      let l₁ = build_e list a l in
      let l₂ = build_e list c l₁ in
      let i = last_e b a in
      let j = last_e (suc i) c in
      let g₁ = grows_expr a b l e in
      let g₂ = grows_expr c (suc i) l₁ g₁.count in
      let h₂ : Begins l₂.entries t = begins_on (begins_two l₂.entries l₂.loose p (λ y z. Bin y o z)) h in
      expr_bin t (suc j) i o j ((grows_expr (bin p a o c) b l e).root t h) (omega (arith, above_expr (suc i) c)) (omega arith)
      ∙ ap₂ (λ (y z : Expr ℕ). bin (suc j) y o z)
      (reads_expr a b l e (begins_on g₂.begins h₂))
      (reads_expr c (suc i) l₁ g₁.count h₂)

  reads_cmd : (a : Cmd ℕ) (b : ℕ) (l : Listing) → length l.entries ≡ b → Begins (build_c list a l).entries t → cmd_at t (last_c b a) ≡ number_c b a
  reads_cmd (skip p) b l e h = cmd_skip t b ((grows_cmd (skip p) b l e).root t h)
  reads_cmd (assign p x a) b l e h =
      let l₁ = build_e list a l in
      let i = last_e b a in
      cmd_assign t (suc i) x i ((grows_cmd (assign p x a) b l e).root t h) (omega arith)
      ∙ ap (λ (z : Expr ℕ). assign (suc i) x z) (reads_expr a b l e (begins_on (begins_one l₁.entries l₁.loose p (λ j. Assign x j)) h))
  reads_cmd (seq p a c) b l e h =
      let l₁ = build_c list a l in
      let l₂ = build_c list c l₁ in
      let i = last_c b a in
      let j = last_c (suc i) c in
      let g₁ = grows_cmd a b l e in
      let g₂ = grows_cmd c (suc i) l₁ g₁.count in
      let h₂ : Begins l₂.entries t = begins_on (begins_two l₂.entries l₂.loose p (λ y z. Seq y z)) h in
      cmd_seq t (suc j) i j ((grows_cmd (seq p a c) b l e).root t h) (omega (arith, above_cmd (suc i) c)) (omega arith)
      ∙ ap₂ (λ (y z : Cmd ℕ). seq (suc j) y z)
      (reads_cmd a b l e (begins_on g₂.begins h₂))
      (reads_cmd c (suc i) l₁ g₁.count h₂)
  reads_cmd (choice p a c d) b l e h =
      let l₁ = build_e list a l in
      let l₂ = build_c list c l₁ in
      let l₃ = build_c list d l₂ in
      let i = last_e b a in
      let j = last_c (suc i) c in
      let k = last_c (suc j) d in
      let g₁ = grows_expr a b l e in
      let g₂ = grows_cmd c (suc i) l₁ g₁.count in
      let g₃ = grows_cmd d (suc j) l₂ g₂.count in
      let h₃ : Begins l₃.entries t = begins_on (begins_three l₃.entries l₃.loose p (λ x y z. Choice x y z)) h in
      let h₂ : Begins l₂.entries t = begins_on g₃.begins h₃ in
      let x = reads_expr a b l e (begins_on g₂.begins h₂) in
      let y = reads_cmd c (suc i) l₁ g₁.count h₂ in
      let z = reads_cmd d (suc j) l₂ g₂.count h₃ in
      cmd_choice t (suc k) i j k ((grows_cmd (choice p a c d) b l e).root t h) (omega (arith, above_cmd (suc i) c, above_cmd (suc j) d)) (omega (arith, above_cmd (suc j) d)) (omega arith)
      ∙ (λ r. choice (suc k) (x r) (y r) (z r))
  reads_cmd (loop p a c) b l e h =
      let l₁ = build_e list a l in
      let l₂ = build_c list c l₁ in
      let i = last_e b a in
      let j = last_c (suc i) c in
      let g₁ = grows_expr a b l e in
      let g₂ = grows_cmd c (suc i) l₁ g₁.count in
      let h₂ : Begins l₂.entries t = begins_on (begins_two l₂.entries l₂.loose p (λ y z. Loop y z)) h in
      cmd_loop t (suc j) i j ((grows_cmd (loop p a c) b l e).root t h) (omega (arith, above_cmd (suc i) c)) (omega arith)
      ∙ ap₂ (λ (y : Expr ℕ) (z : Cmd ℕ). loop (suc j) y z)
      (reads_expr a b l e (begins_on g₂.begins h₂))
      (reads_cmd c (suc i) l₁ g₁.count h₂)
  reads_cmd (input p x) b l e h = cmd_input t b x ((grows_cmd (input p x) b l e).root t h)
  reads_cmd (output p a) b l e h =
      let l₁ = build_e list a l in
      let i = last_e b a in
      cmd_output t (suc i) i ((grows_cmd (output p a) b l e).root t h) (omega arith)
      ∙ ap (λ (z : Expr ℕ). output (suc i) z) (reads_expr a b l e (begins_on (begins_one l₁.entries l₁.loose p (λ j. Output j)) h))

-- the declarations' entries
abbrev pub decl_entries : List (tree.Decl ℕ) → List Entry
decl_entries [] = []
decl_entries (d ∷ ds) = entry (Decl d.name d.type) d.label ∷ decl_entries ds

pub lists_decls : (ds : List (tree.Decl ℕ)) (V : List ℕ) (es : List Entry) → declares list ds (listing V es) ≡ listing V (es ++ decl_entries ds)
lists_decls [] V es = ap (listing V) (sym (append-nil es))
lists_decls (d ∷ ds) V es =
    let x = entry (Decl d.name d.type) d.label in
    lists_decls ds V (es ++ (x ∷ [])) ∙ ap (listing V) (append_assoc es (x ∷ []) (decl_entries ds))

length_decls : (ds : List (tree.Decl ℕ)) → length (decl_entries ds) ≡ length ds
length_decls [] = refl
length_decls (d ∷ ds) = ap suc (length_decls ds)

reads_decls : (k : ℕ) (ds : List (tree.Decl ℕ)) → decls_from k (decl_entries ds) ≡ number_ds k ds
unfolding decls_from
reads_decls k [] = refl
reads_decls k (d ∷ ds) = ap₂ (declared k) (entry_said (Decl d.name d.type) d.label) (reads_decls (suc k) ds)

-- the declarations, and what has grown from them
module _ (t : tree.Program ℕ) where
  heading : Listing
  heading = declares list t.decls (listing [] [])

  heading_is : heading.entries ≡ decl_entries t.decls
  unfolding heading
  heading_is = ap (λ (l : Listing). l.entries) (lists_decls t.decls [] [])

  heading_count : length heading.entries ≡ length t.decls
  heading_count = ap length heading_is ∙ length_decls t.decls

  whole : Grown heading (builds list t (listing [] [])) (suc (last_c (length t.decls) t.body)) (Program (last_c (length t.decls) t.body))
  unfolding heading
  whole = grow_one (grows_cmd t.body (length t.decls) heading heading_count) (λ a. Program a) t.label (λ k ds. refl)

  -- how many entries a tree has
  pub entries_count : length (entries_of t) ≡ suc (suc (last_c (length t.decls) t.body))
  entries_count = whole.count

  pub reads_listed : program_of (entries_of t) ≡ numbered t
  unfolding program_of heading
  reads_listed =
      let es = entries_of t in
      let r = last_c (length t.decls) t.body in
      let l = build_c list t.body heading in
      let end : length es - 1 ≡ suc r = omega (arith, entries_count) in
      let h : Begins l.entries es = begins_one l.entries l.loose t.label (λ a. Program a) in
      let body : body_of es (length es - 1) (node (get_or es (length es - 1) blank)) ≡ number_c (length t.decls) t.body =
      ap (λ (m : ℕ). body_of es m (node (get_or es m blank))) end
      ∙ ap (body_of es (suc r)) (whole.root es (record { rest = []; is = sym (append-nil es) }))
      ∙ reads_cmd es t.body (length t.decls) heading heading_count h in
      let decls : decls_from 0 es ≡ number_ds 0 t.decls = whole.quiet 0 ∙ ap (decls_from 0) heading_is ∙ reads_decls 0 t.decls in
      λ i. record { label = end i; decls = decls i; body = body i }
