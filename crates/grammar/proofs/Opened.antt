-- The node table that is listed of a bounded tree opens.
use Rattle.std.proofs.Common.{◌≡◌, ℕ, suc, ◌+◌, ◌≤◌, true, List, [], ◌∷◌, ◌++◌, length, take, replicate, Some, sym, refl, ap, ◌∙◌, subst, ap₂, arith}
use lib.ListN.{length-replicate}
use Rattle.std.proofs.lemmas.Bool.{and_from, lt-ltb, le-leb, cond-true}
use Rattle.tosca.specs.declared.table.Entry.{Entry}
use Rattle.tosca.specs.declared.table.Node.{Node}
use Rattle.tosca.specs.declared.table.Node.TheVariants.{Decl, Const, Var, Uny, Bin, Skip, Assign, Seq, Choice, Loop, Input, Output, Program}
use Rattle.tosca.specs.Table.{blank, entry, node}
use Rattle.tosca.specs.Opens.{Sort, is_expr, is_cmd, sort, Part, expr_part, cmd_part, parts, few_names, uses, all_uses, counted, opened, entries_open, opening}
use Rattle.tosca.specs.Trees.{Expr, const, var, uny, bin, Cmd, skip, assign, seq, choice, loop, input, output}
use Rattle.tosca.specs.Trees as tree
use Rattle.grammar.specs.Building.{declares, build_e, build_c}
use Rattle.grammar.specs.Listing.{Listing, listing, adds, one, two, three, list, entries_of, laid}
use Rattle.grammar.specs.Bounded.{BoundedE, BoundedC, BoundedDs, Bounded}
use Rattle.grammar.proofs.OpenNumbered.{decl_entries, lists_decls, entries_count}
use Rattle.grammar.proofs.OpenTables.{Sound, sound_push, sound_opens, inner, within_none, AllGood, Stand, known_entry}
use Rattle.tosca.proofs.Entries.{entry_said}

abbrev ats : List Part → List ℕ
ats [] = []
ats (p ∷ ps) = p.at ∷ ats ps

-- a sound table, and a listing's loose entries are its
record Made (b : ℕ) (ps : List Part) (l : Listing) : Type 0 where
  loose : l.loose ≡ ats ps
  sound : Sound b ps l.entries

-- a node that may be listed at a place, its parts and its sort
record NodeOf (n : Node) (p : ℕ) (qs : List Part) (s : Sort) : Type 0 where
  has : parts (Some n) ≡ qs
  is : sort (Some n) ≡ s
  inside : inner s ≡ true
  few : few_names n ≡ true
  low : p ≤ 16384

node_of : (n : Node) (p : ℕ) → inner (sort (Some n)) ≡ true → few_names n ≡ true → p ≤ 16384 → NodeOf n p (parts (Some n)) (sort (Some n))
node_of n p i f l = record { has = refl; is = refl; inside = i; few = f; low = l }

module _ (b : ℕ) (ps : List Part) (p : ℕ) (s : Sort) where
  abbrev Next : Listing → Listing → Type 0
  Next l m = Made b (record { at = length l.entries; wants = s } ∷ ps) m

  adds_zero : (l : Listing) (n : Node) → Made b ps l → NodeOf n p [] s → Next l (adds n p l.loose l.entries)
  adds_zero l n m h =
      let g = m.sound in
      record {
        loose = ap {B = List ℕ} (λ V. length l.entries ∷ V) m.loose;
        sound = sound_push b l.entries [] ps n p s g.above g.good tt g.loose (λ i. omega (arith, g.used i)) h.has h.is h.inside h.few h.low;
      }

  adds_one : (l : Listing) (f : ℕ → Node) (q : Part) → Made b (q ∷ ps) l → NodeOf (f q.at) p (q ∷ []) s → Next l (one l.entries l.loose p f)
  adds_one l f q m h =
      let g = m.sound in
      subst (λ V. Next l (one l.entries V p f)) (sym m.loose) (record {
        loose = refl;
        sound = sound_push b l.entries (q ∷ []) ps (f q.at) p s g.above g.good (g.loose.0, g.loose.1, tt) g.loose.2 (λ i. omega (arith, g.used i)) h.has h.is h.inside h.few h.low;
      })

  adds_two : (l : Listing) (f : ℕ → ℕ → Node) (q r : Part) → Made b (r ∷ q ∷ ps) l → NodeOf (f q.at r.at) p (q ∷ r ∷ []) s → Next l (two l.entries l.loose p f)
  adds_two l f q r m h =
      let g = m.sound in
      let st = g.loose in
      subst (λ V. Next l (two l.entries V p f)) (sym m.loose) (record {
        loose = refl;
        sound = sound_push b l.entries (q ∷ r ∷ []) ps (f q.at r.at) p s g.above g.good (st.2.0, st.2.1, (st.0, st.1, tt)) st.2.2 (λ i. omega (arith, g.used i)) h.has h.is h.inside h.few h.low;
      })

  adds_three : (l : Listing) (f : ℕ → ℕ → ℕ → Node) (q r v : Part) → Made b (v ∷ r ∷ q ∷ ps) l → NodeOf (f q.at r.at v.at) p (q ∷ r ∷ v ∷ []) s → Next l (three l.entries l.loose p f)
  adds_three l f q r v m h =
      let g = m.sound in
      let st = g.loose in
      subst (λ V. Next l (three l.entries V p f)) (sym m.loose) (record {
        loose = refl;
        sound = sound_push b l.entries (q ∷ r ∷ v ∷ []) ps (f q.at r.at v.at) p s g.above g.good (st.2.2.0, st.2.2.1, (st.2.0, st.2.1, (st.0, st.1, tt))) st.2.2.2 (λ i. omega (arith, g.used i)) h.has h.is h.inside h.few h.low;
      })

-- a tree built is one more loose entry
module _ (b : ℕ) where
  makes_expr : (a : Expr ℕ) (ps : List Part) (l : Listing) → BoundedE a → Made b ps l → (r : ℕ) × Made b (expr_part r ∷ ps) (build_e list a l)
  makes_expr (const p v) ps l h m = (_, adds_zero b ps p is_expr l (Const v) m (node_of (Const v) p refl refl h))
  makes_expr (var p x) ps l h m = (_, adds_zero b ps p is_expr l (Var x) m (node_of (Var x) p refl (lt-ltb x 64 h.1) h.0))
  makes_expr (uny p o a) ps l h m =
      let r = makes_expr a ps l h.1 m in
      (_, adds_one b ps p is_expr (build_e list a l) (λ i. Uny o i) (expr_part r.0) r.1 (node_of (Uny o r.0) p refl refl h.0))
  makes_expr (bin p a o c) ps l h m =
      let r = makes_expr a ps l h.1 m in
      let s = makes_expr c (expr_part r.0 ∷ ps) (build_e list a l) h.2 r.1 in
      (_, adds_two b ps p is_expr (build_e list c (build_e list a l)) (λ i j. Bin i o j) (expr_part r.0) (expr_part s.0) s.1 (node_of (Bin r.0 o s.0) p refl refl h.0))

  makes_cmd : (a : Cmd ℕ) (ps : List Part) (l : Listing) → BoundedC a → Made b ps l → (r : ℕ) × Made b (cmd_part r ∷ ps) (build_c list a l)
  makes_cmd (skip p) ps l h m = (_, adds_zero b ps p is_cmd l Skip m (node_of Skip p refl refl h))
  makes_cmd (assign p x a) ps l h m =
      let r = makes_expr a ps l h.2 m in
      (_, adds_one b ps p is_cmd (build_e list a l) (λ i. Assign x i) (expr_part r.0) r.1 (node_of (Assign x r.0) p refl (lt-ltb x 64 h.1) h.0))
  makes_cmd (seq p a c) ps l h m =
      let r = makes_cmd a ps l h.1 m in
      let s = makes_cmd c (cmd_part r.0 ∷ ps) (build_c list a l) h.2 r.1 in
      (_, adds_two b ps p is_cmd (build_c list c (build_c list a l)) (λ i j. Seq i j) (cmd_part r.0) (cmd_part s.0) s.1 (node_of (Seq r.0 s.0) p refl refl h.0))
  makes_cmd (choice p a c d) ps l h m =
      let r = makes_expr a ps l h.1 m in
      let s = makes_cmd c (expr_part r.0 ∷ ps) (build_e list a l) h.2 r.1 in
      let u = makes_cmd d (cmd_part s.0 ∷ expr_part r.0 ∷ ps) (build_c list c (build_e list a l)) h.3 s.1 in
      (_, adds_three b ps p is_cmd (build_c list d (build_c list c (build_e list a l))) (λ i j k. Choice i j k) (expr_part r.0) (cmd_part s.0) (cmd_part u.0) u.1 (node_of (Choice r.0 s.0 u.0) p refl refl h.0))
  makes_cmd (loop p a c) ps l h m =
      let r = makes_expr a ps l h.1 m in
      let s = makes_cmd c (expr_part r.0 ∷ ps) (build_e list a l) h.2 r.1 in
      (_, adds_two b ps p is_cmd (build_c list c (build_e list a l)) (λ i j. Loop i j) (expr_part r.0) (cmd_part s.0) s.1 (node_of (Loop r.0 s.0) p refl refl h.0))
  makes_cmd (input p x) ps l h m = (_, adds_zero b ps p is_cmd l (Input x) m (node_of (Input x) p refl (lt-ltb x 64 h.1) h.0))
  makes_cmd (output p a) ps l h m =
      let r = makes_expr a ps l h.1 m in
      (_, adds_one b ps p is_cmd (build_e list a l) (λ i. Output i) (expr_part r.0) r.1 (node_of (Output r.0) p refl refl h.0))

-- the declarations are no parts, and have none
decl_parts : (d : tree.Decl ℕ) → parts (node (entry (Decl d.name d.type) d.label)) ≡ []
decl_parts d = ap parts (entry_said (Decl d.name d.type) d.label)

decls_good : (b : ℕ) (t : List Entry) (k : ℕ) (ds : List (tree.Decl ℕ)) → BoundedDs ds → k + length (decl_entries ds) ≤ b → AllGood b t k (decl_entries ds)
decls_good b t k [] h l = tt
decls_good b t k (d ∷ ds) h l =
    let n = Decl d.name d.type in (
      record {
        says = known_entry n d.label (lt-ltb d.name 64 h.1) h.0;
        early = λ j. ap sort (entry_said n d.label);
        late = λ j. absurd (omega arith);
        stands = subst (λ ps. Stand t k ps) (sym (decl_parts d)) tt;
      },
      decls_good b t (suc k) ds h.2 (omega arith),
    )

decls_unused : (i : ℕ) (ds : List (tree.Decl ℕ)) → all_uses i (decl_entries ds) ≡ 0
decls_unused i [] = refl
decls_unused i (d ∷ ds) = ap₂ (λ (ps : List Part) (n : ℕ). uses i ps + n) (decl_parts d) (decls_unused i ds)

decls_made : (ds : List (tree.Decl ℕ)) → BoundedDs ds → Made (length (decl_entries ds)) [] (declares list ds (listing [] []))
decls_made ds h =
    let es = decl_entries ds in
    subst (λ l. Made (length es) [] l) (sym (lists_decls ds [] [])) (record {
      loose = refl;
      sound = record {
        above = omega arith;
        good = decls_good (length es) es 0 ds h (omega arith);
        loose = tt;
        used = λ i. omega (arith, decls_unused i ds, within_none (length es) i);
      };
    })

-- the listing before the program entry
abbrev bodied : tree.Program ℕ → Listing
bodied t = build_c list t.body (declares list t.decls (listing [] []))

bodied_sound : (t : tree.Program ℕ) → Bounded t → (r : ℕ) × Made (length (decl_entries t.decls)) (cmd_part r ∷ []) (bodied t)
bodied_sound t h = makes_cmd (length (decl_entries t.decls)) t.body [] (declares list t.decls (listing [] [])) h.2 (decls_made t.decls h.1)

entries_end : (t : tree.Program ℕ) (h : Bounded t) → entries_of t ≡ (bodied t).entries ++ (entry (Program (bodied_sound t h).0) t.label ∷ [])
entries_end t h = ap (λ (V : List ℕ). (one (bodied t).entries V t.label (λ a. Program a)).entries) (bodied_sound t h).1.loose

-- a tree has an entry at least
pub entries_some : (t : tree.Program ℕ) → 1 ≤ length (entries_of t)
entries_some t = omega (arith, entries_count t)

pub entries_open_lem : (t : tree.Program ℕ) → Bounded t → entries_open (entries_of t) ≡ opened
entries_open_lem t h =
    let s = bodied_sound t h in
    ap entries_open (entries_end t h) ∙ sound_opens (length (decl_entries t.decls)) (bodied t).entries s.0 t.label s.1.sound h.0

length_laid : (ns t : List Entry) → length (laid ns t) ≡ length t
length_laid [] t = refl
length_laid (n ∷ ns) [] = refl
length_laid (n ∷ ns) (x ∷ t) = ap suc (length_laid ns t)

take_laid : (ns t : List Entry) → length ns ≤ length t → take (length ns) (laid ns t) ≡ ns
take_laid [] t h = refl
take_laid (n ∷ ns) [] h = absurd (omega arith)
take_laid (n ∷ ns) (x ∷ t) h = ap {B = List Entry} (λ r. n ∷ r) (take_laid ns t (omega arith))

pub listed_opens : (t : tree.Program ℕ) → Bounded t → (cap : ℕ) → length (entries_of t) ≤ 1024 → length (entries_of t) ≤ cap → opening (laid (entries_of t) (replicate cap blank)) (length (entries_of t)) ≡ opened
listed_opens t h cap l k =
    let es = entries_of t in
    let room = replicate cap blank in
    let len : length room ≡ cap = length-replicate cap blank in
    let c : counted (length (laid es room)) (length es) ≡ true =
    and_from _ _ (le-leb 1 (length es) (entries_some t)) (and_from _ _ (le-leb (length es) 1024 l) (le-leb (length es) (length (laid es room)) (omega (arith, length_laid es room, len)))) in
    cond-true (counted (length (laid es room)) (length es)) _ _ c ∙ ap entries_open (take_laid es room (omega (arith, len))) ∙ entries_open_lem t h
