-- How the reading of a text leads to that of what is left of it.
use Rattle.std.proofs.Common.{Bool, true, false, ◌&&◌, map, Result, Ok, Err, IfOk, IfErr, IsErrAnd, ◌≡◌, ◌≤◌, ◌+◌, ◌-◌, ℕ, List, [], ◌∷◌, ◌++◌, take, drop, length, ap, sym, refl, ◌∙◌, subst, append_assoc, arith, length-drop, length-take, take-append-drop, drop-drop, take-take}
use Rattle.std.proofs.lemmas.List.{append-nil, append_cancel_right, drop-take, drop_all}
use Rattle.wrap_words.specs.declared.kind.Kind.{Kind}
use Rattle.wrap_words.specs.declared.kind.Kind.TheVariants.{I32}
use Rattle.kind_faults.specs.Words.{kind_word}
use Rattle.kernel_grammar.specs.Lexicals.{Lexical, word, listed}
use Rattle.kernel_grammar.specs.Words.{Name}
use Rattle.kernel_grammar.specs.Spelling.{name_text, or_text}
use Rattle.kernel_grammar.specs.Trees.{Or, or_of, and_of, not_of, cmp_of, bor_of, bxor_of, band_of, shift_of, sum_of, prod_of, unary_of, digits}
use Rattle.kernel_expressions.specs.declared.stop.Stop.{Stop}
use Rattle.kernel_expressions.specs.declared.stop.Stop.TheVariants.{OutOfMemory, Refused}
use Rattle.kernel_expressions.specs.Reads.{Next, Reads, IsItem, IsList, word_of}
use Rattle.kernel_expressions.proofs.Join.{as_well}
use Rattle.kernel_expressions.specs.Settled.{SameTo, Stands, Ends, Stops, NoneNext, Halts, AnyRest, Behind, Spells, SpellsList}
use Rattle.kernel_syntax.specs.Parts.{Is}

split_by : (all : List Lexical) (a m : ℕ) → drop a all ≡ drop a (take (a + m) all) ++ drop (a + m) all
split_by all a m = sym (take-append-drop m (drop a all)) ∙ ap (λ xs. xs ++ drop m (drop a all)) (sym (drop-take a m all)) ∙ ap (λ xs. drop a (take (a + m) all) ++ xs) (drop-drop m a all)

split : (all : List Lexical) (a b : ℕ) → a ≤ b → drop a all ≡ drop a (take b all) ++ drop b all
split all a b le = let e : a + (b - a) ≡ b = omega (arith, le) in subst (λ (n : ℕ). drop a all ≡ drop a (take n all) ++ drop n all) e (split_by all a (b - a))

fronts : (all : List Lexical) (a b c : ℕ) → a ≤ b → b ≤ c → drop a (take c all) ≡ drop a (take b all) ++ drop b (take c all)
fronts all a b c h k = split (take c all) a b h ∙ ap (λ xs. drop a xs ++ drop b (take c all)) (take-take b c all k)

no_front : (all : List Lexical) (a : ℕ) → drop a (take a all) ≡ []
no_front all a = drop_all a (take a all) (omega (arith, length-take a all))

pub read_front : (all : List Lexical) (a b : ℕ) (P : List Lexical → Type 0) → (h : Reads all a b P) → drop a (take b all) ≡ h.text
read_front all a b P h = append_cancel_right (drop a (take b all)) h.text (drop b all) (sym (split all a b h.on) ∙ h.ahead)

pub same_to : (all others : List Lexical) (a b : ℕ) → a ≤ b → SameTo all others b → SameTo all others a
same_to all others a b le same = let on : a + 1 ≤ b + 1 = omega (arith, le) in sym (take-take (a + 1) (b + 1) others on) ∙ ap (λ xs. take (a + 1) xs) same ∙ take-take (a + 1) (b + 1) all on

-- The text begins with the token at the place, or is empty where none stands there.
pub record Heads (all : List Lexical) (at : ℕ) (text : List Lexical) : Type 0 where
  pub none : text ≡ [] → length all ≤ at
  pub some : (x : Lexical) (more : List Lexical) → text ≡ x ∷ more → Next all at x

one_there : (all : List Lexical) (at : ℕ) (x : Lexical) → drop at (take (at + 1) all) ≡ x ∷ [] → Next all at x
one_there all at x e = let here : drop at all ≡ x ∷ drop (at + 1) all = split all at (at + 1) (omega arith) ∙ ap (λ xs. xs ++ drop (at + 1) all) e in record {
  here = here;
  within = omega (arith, ap length here, length-drop at all);
}

pub heads : (all others : List Lexical) (at : ℕ) (text : List Lexical) → SameTo all others at → drop at others ≡ text → Heads all at text
heads all others at text same e = record {
  none = λ k. omega (arith, ap length same, length-take (at + 1) others, length-take (at + 1) all, ap length (e ∙ k), length-drop at others);
  some = λ x more k. one_there all at x (ap (λ xs. drop at xs) (sym same) ∙ drop-take at 1 others ∙ ap (λ xs. take 1 xs) (e ∙ k));
}

-- a token of a sort
pub record Token (X : Lexical → Type 0) (text : List Lexical) : Type 0 where
  pub token : Lexical
  pub is : X token
  pub whole : text ≡ token ∷ []

-- a text of one sort and one of another behind it
pub record Then (P Q : List Lexical → Type 0) (text : List Lexical) : Type 0 where
  pub first : List Lexical
  pub second : List Lexical
  pub one : P first
  pub other : Q second
  pub whole : text ≡ first ++ second

-- this token and a text of a sort behind it
abbrev pub Tok : Lexical → (List Lexical → Type 0) → List Lexical → Type 0
Tok x Q = Then (Token (λ y. y ≡ x)) Q

-- What is read up to the place leaves a text of the second sort where one of the first is wanted, and such a text completes it.
pub record Leads (all : List Lexical) (P Q E : List Lexical → Type 0) (at mid : ℕ) : Type 0 where
  pub on : at ≤ mid
  pub within : mid ≤ length all
  pub forth : (others rest : List Lexical) → SameTo all others mid → Stands P E others at rest → Stands Q E others mid rest
  pub back : (text : List Lexical) → Q text → P (drop at (take mid all) ++ text)

pub start : (all : List Lexical) (P E : List Lexical → Type 0) (at : ℕ) → at ≤ length all → Leads all P P E at at
start all P E at within = record {
  on = omega arith;
  within = within;
  forth = λ others rest same h. h;
  back = λ text p. subst P (ap (λ xs. xs ++ text) (sym (no_front all at))) p;
}

leads_on : (all : List Lexical) (P Q R E : List Lexical → Type 0) (at mid next : ℕ) → Leads all P Q E at mid → Leads all Q R E mid next → Leads all P R E at next
leads_on all P Q R E at mid next h k = record {
  on = omega (arith, h.on, k.on);
  within = k.within;
  forth = λ others rest same s. k.forth others rest same (h.forth others rest (same_to all others mid next k.on same) s);
  back = λ text r. subst P (sym (append_assoc (drop at (take mid all)) (drop mid (take next all)) text) ∙ ap (λ xs. xs ++ text) (sym (fronts all at mid next h.on k.on))) (h.back (drop mid (take next all) ++ text) (k.back text r));
}

-- Where the first is followed by the second, what may stand behind that lets what must stand behind the first.
abbrev pub Follows : (Q E F : List Lexical → Type 0) → Type 0
Follows Q E F = (text rest : List Lexical) → Q text → E rest → F (text ++ rest)

then_leads : (all : List Lexical) (P Q E F : List Lexical → Type 0) (at mid : ℕ) → Reads all at mid P → Ends all P F at mid → Follows Q E F → Leads all (Then P Q) Q E at mid
then_leads all P Q E F at mid h k follows = record {
  on = h.on;
  within = h.within;
  forth = λ others rest same s. record {
    text = s.is.second;
    here = k.ends others (s.is.second ++ rest) same (record { text = s.is.first; here = s.here ∙ ap (λ xs. xs ++ rest) s.is.whole ∙ append_assoc s.is.first s.is.second rest; is = s.is.one; behind = follows s.is.second rest s.is.other s.behind });
    is = s.is.other;
    behind = s.behind;
  };
  back = λ text q. record { first = drop at (take mid all); second = text; one = subst P (sym (read_front all at mid P h)) h.is; other = q; whole = refl };
}

-- a part that is read
pub part : (all : List Lexical) (P Q R E F : List Lexical → Type 0) (at mid next : ℕ) → Leads all P (Then Q R) E at mid → Reads all mid next Q → Ends all Q F mid next → Follows R E F → Leads all P R E at next
part all P Q R E F at mid next h r k follows = leads_on all P (Then Q R) R E at mid next h (then_leads all Q R E F mid next r k follows)

-- a token ends by itself
pub token_ends : (all : List Lexical) (X : Lexical → Type 0) (at next : ℕ) → next ≡ at + 1 → Ends all (Token X) AnyRest at next
token_ends all X at next e = record {
  ends = λ others rest same s. ap (λ (n : ℕ). drop n others) e ∙ sym (drop-drop 1 at others) ∙ ap (λ xs. drop 1 xs) (s.here ∙ ap (λ xs. xs ++ rest) s.is.whole);
}

token_reads : (all : List Lexical) (X : Lexical → Type 0) (at next : ℕ) (x : Lexical) → next ≡ at + 1 → Next all at x → X x → Reads all at next (Token X)
token_reads all X at next x e n is = record {
  text = x ∷ [];
  ahead = n.here ∙ ap (λ (m : ℕ). x ∷ drop m all) (sym e);
  on = omega (arith, e);
  within = omega (arith, e, n.within);
  is = record { token = x; is = is; whole = refl };
}

-- a token that is read
pub token : (all : List Lexical) (P R E : List Lexical → Type 0) (X : Lexical → Type 0) (at mid next : ℕ) (x : Lexical) → Leads all P (Then (Token X) R) E at mid → next ≡ mid + 1 → Next all mid x → X x → Leads all P R E at next
token all P R E X at mid next x h e n is = part all P (Token X) R E AnyRest at mid next h (token_reads all X mid next x e n is) (token_ends all X mid next e) (λ text rest q r. tt)

-- what is left is all of another sort
pub refined : (all : List Lexical) (P Q R E : List Lexical → Type 0) (at mid : ℕ) → Leads all P Q E at mid → ((text rest : List Lexical) → Heads all mid (text ++ rest) → Q text → E rest → R text) → ((text : List Lexical) → R text → Q text) → Leads all P R E at mid
refined all P Q R E at mid h forth back = record {
  on = h.on;
  within = h.within;
  forth = λ others rest same s. let k : Stands Q E others mid rest = h.forth others rest same s in record {
    text = k.text;
    here = k.here;
    is = forth k.text rest (heads all others mid (k.text ++ rest) same k.here) k.is k.behind;
    behind = k.behind;
  };
  back = λ text r. h.back text (back text r);
}

-- the end of a text
pub done : (all : List Lexical) (P E : List Lexical → Type 0) (at next : ℕ) → Leads all P (Is []) E at next → Ends all P E at next
done all P E at next h = record {
  ends = λ others rest same s. let k : Stands (Is []) E others next rest = h.forth others rest same s in k.here ∙ ap (λ xs. xs ++ rest) k.is;
}

-- the end of the last part
pub last_ends : (all : List Lexical) (P Q E F : List Lexical → Type 0) (at mid next : ℕ) → Leads all P Q E at mid → mid ≤ next → Ends all Q F mid next → ((rest : List Lexical) → E rest → F rest) → Ends all P E at next
last_ends all P Q E F at mid next h on k follows = record {
  ends = λ others rest same s. let j : Stands Q E others mid rest = h.forth others rest (same_to all others mid next on same) s in k.ends others rest same (record { text = j.text; here = j.here; is = j.is; behind = follows rest j.behind });
}

-- ---- no such text

pub leads_stop : (all : List Lexical) (P Q E F : List Lexical → Type 0) (at mid last : ℕ) → Leads all P Q E at mid → ((rest : List Lexical) → E rest → F rest) → Stops all Q F mid last → Stops all P E at last
leads_stop all P Q E F at mid last h follows k = record {
  on = omega (arith, h.on, k.on);
  within = k.within;
  none = λ others rest same s. let j : Stands Q E others mid rest = h.forth others rest (same_to all others mid last k.on same) s in k.none others rest same (record { text = j.text; here = j.here; is = j.is; behind = follows rest j.behind });
  begun = record {
    more = k.begun.more;
    is = subst P (sym (append_assoc (drop at (take mid all)) (drop mid (take last all)) k.begun.more) ∙ ap (λ xs. xs ++ k.begun.more) (sym (fronts all at mid last h.on k.on))) (h.back (drop mid (take last all) ++ k.begun.more) k.begun.is);
  };
}

pub halts : (A B : ℕ → Type 0) (s : Stop) → ((n : ℕ) → A n → B n) → Halts A s → Halts B s
halts A B OutOfMemory f h = tt
halts A B (Refused n) f h = f n h

-- the last part stops
pub last_stops : (all : List Lexical) (P Q E F : List Lexical → Type 0) (at mid : ℕ) (s : Stop) → Leads all P Q E at mid → ((rest : List Lexical) → E rest → F rest) → Halts (Stops all Q F mid) s → Halts (Stops all P E at) s
last_stops all P Q E F at mid s h follows k = halts (Stops all Q F mid) (Stops all P E at) s (λ last j. leads_stop all P Q E F at mid last h follows j) k

then_stops : (all : List Lexical) (P Q E F : List Lexical → Type 0) (at last : ℕ) → Stops all P F at last → Follows Q E F → (text : List Lexical) → Q text → Stops all (Then P Q) E at last
then_stops all P Q E F at last h follows text q = record {
  on = h.on;
  within = h.within;
  none = λ others rest same s. h.none others (s.is.second ++ rest) same (record { text = s.is.first; here = s.here ∙ ap (λ xs. xs ++ rest) s.is.whole ∙ append_assoc s.is.first s.is.second rest; is = s.is.one; behind = follows s.is.second rest s.is.other s.behind });
  begun = record {
    more = h.begun.more ++ text;
    is = record { first = drop at (take last all) ++ h.begun.more; second = text; one = h.begun.is; other = q; whole = sym (append_assoc (drop at (take last all)) h.begun.more text) };
  };
}

-- a part stops
pub part_stops : (all : List Lexical) (P Q R E F : List Lexical → Type 0) (at mid : ℕ) (s : Stop) (text : List Lexical) → Leads all P (Then Q R) E at mid → Halts (Stops all Q F mid) s → Follows R E F → R text → Halts (Stops all P E at) s
part_stops all P Q R E F at mid s text h k follows r = halts (Stops all Q F mid) (Stops all P E at) s
    (λ last j. leads_stop all P (Then Q R) E E at mid last h (λ rest e. e) (then_stops all Q R E F mid last j follows text r)) k

-- nothing that is wanted stands there
pub refused : (all : List Lexical) (P Q E : List Lexical → Type 0) (at mid : ℕ) (text : List Lexical) → Leads all P Q E at mid → ((t rest : List Lexical) → Heads all mid (t ++ rest) → Q t → E rest → ⊥) → Q text → Stops all P E at mid
refused all P Q E at mid text h none q = leads_stop all P Q E E at mid mid h (λ rest e. e) (record {
  on = omega arith;
  within = h.within;
  none = λ others rest same s. none s.text rest (heads all others mid (s.text ++ rest) same s.here) s.is s.behind;
  begun = record { more = text; is = subst Q (ap (λ xs. xs ++ text) (sym (no_front all mid))) q };
})

no_text : (text rest : List Lexical) → rest ≡ text ++ rest → text ≡ []
no_text text rest e = append_cancel_right text [] rest (sym e)

-- Where nothing is read, nothing that is some text stands there.
pub nothing_stops : (all : List Lexical) (P Q E : List Lexical → Type 0) (at : ℕ) (text : List Lexical) → at ≤ length all → Ends all Q E at at → ((t : List Lexical) → P t → Q t) → (P [] → ⊥) → P text → Stops all P E at at
nothing_stops all P Q E at text within h are some p = record {
  on = omega arith;
  within = within;
  none = λ others rest same s. some (subst P (no_text s.text rest (sym (h.ends others rest same (record { text = s.text; here = s.here; is = are s.text s.is; behind = s.behind })) ∙ s.here)) s.is);
  begun = record { more = text; is = subst P (ap (λ xs. xs ++ text) (sym (no_front all at))) p };
}

-- a token is missing
token_missing : (all : List Lexical) (P R E : List Lexical → Type 0) (X : Lexical → Type 0) (at mid last : ℕ) (x : Lexical) (text : List Lexical) → Leads all P (Then (Token X) R) E at mid → NoneNext all mid X last → X x → R text → Stops all P E at last
token_missing all P R E X at mid last x text h k is r = subst (λ (n : ℕ). Stops all P E at n) (sym k.same) (refused all P (Then (Token X) R) E at mid (x ∷ text) h
    (λ t rest head q e. k.none q.one.token (head.some q.one.token (q.second ++ rest) (ap (λ xs. xs ++ rest) q.whole ∙ ap (λ xs. (xs ++ q.second) ++ rest) q.one.whole)) q.one.is)
    (record { first = x ∷ []; second = text; one = record { token = x; is = is; whole = refl }; other = r; whole = refl }))

pub token_stops : (all : List Lexical) (P R E : List Lexical → Type 0) (X : Lexical → Type 0) (at mid : ℕ) (s : Stop) (x : Lexical) (text : List Lexical) → Leads all P (Then (Token X) R) E at mid → Halts (NoneNext all mid X) s → X x → R text → Halts (Stops all P E at) s
token_stops all P R E X at mid s x text h k is r = halts (NoneNext all mid X) (Stops all P E at) s (λ last j. token_missing all P R E X at mid last x text h j is r) k

-- ---- tokens

pub next_same : (all : List Lexical) (at : ℕ) (x y : Lexical) → Next all at x → Next all at y → x ≡ y
next_same all at x y h k = let e : x ∷ drop (at + 1) all ≡ y ∷ drop (at + 1) all = sym h.here ∙ k.here in cc

pub some_head : (all : List Lexical) (at : ℕ) (x : Lexical) (text : List Lexical) → Heads all at text → Next all at x → (more : List Lexical) × (text ≡ x ∷ more)
some_head all at x [] h n = absurd (omega (arith, h.none refl, n.within))
some_head all at x (y ∷ more) h n = (more, ap (λ (z : Lexical). z ∷ more) (next_same all at y x (h.some y more refl) n))

-- the first token of what stands there is the one that stands there
pub head_is : (all : List Lexical) (at : ℕ) (x y : Lexical) (more : List Lexical) → Heads all at (y ∷ more) → Next all at x → y ≡ x
head_is all at x y more h n = next_same all at y x (h.some y more refl) n

-- the rest begins with the token that stands there
pub rest_head : (all : List Lexical) (at : ℕ) (x : Lexical) (f : Lexical → Bool) (rest : List Lexical) → Heads all at rest → Next all at x → Behind f rest → f x ≡ true
rest_head all at x f rest h n b = let k = some_head all at x rest h n in subst (Behind f) k.1 b

pub no_rest : (all : List Lexical) (at : ℕ) (x : Lexical) (f : Lexical → Bool) (rest : List Lexical) → Heads all at rest → Next all at x → Behind f rest → f x ≡ false → ⊥
no_rest all at x f rest h n b e = let k : false ≡ true = sym e ∙ rest_head all at x f rest h n b in absurd (cc)

pub both : (a b : Bool) → (a && b) ≡ true → (a ≡ true) × (b ≡ true)
both true b e = (refl, e)
both false b e = absurd (cc)

pub weaker : (f g : Lexical → Bool) → ((x : Lexical) → f x ≡ true → g x ≡ true) → (rest : List Lexical) → Behind f rest → Behind g rest
weaker f g h [] b = tt
weaker f g h (x ∷ rest) b = h x b

pub tok_in : (x : Lexical) (Q : List Lexical → Type 0) (text : List Lexical) → Q text → Tok x Q (x ∷ text)
tok_in x Q text q = record { first = x ∷ []; second = text; one = record { token = x; is = refl; whole = refl }; other = q; whole = refl }

pub tok_out : (x : Lexical) (Q : List Lexical → Type 0) (text : List Lexical) → Tok x Q text → (more : List Lexical) × (text ≡ x ∷ more) × Q more
tok_out x Q text h = (h.second, h.whole ∙ ap (λ xs. xs ++ h.second) h.one.whole ∙ ap (λ (y : Lexical). y ∷ h.second) h.one.is, h.other)

pub then_in : (P Q : List Lexical → Type 0) (t u : List Lexical) → P t → Q u → Then P Q (t ++ u)
then_in P Q t u p q = record { first = t; second = u; one = p; other = q; whole = refl }

pub a_spelling : {X : Type 0} (spell : X → List Lexical) (tree : X) → Spells spell (spell tree)
a_spelling spell tree = record { tree = tree; spelled = refl }

-- texts of trees
pub refined_tree : (all : List Lexical) (P : List Lexical → Type 0) {X : Type 0} (spell : X → List Lexical) (R E : List Lexical → Type 0) (at mid : ℕ) → Leads all P (Spells spell) E at mid
    → ((tree : X) (rest : List Lexical) → Heads all mid (spell tree ++ rest) → E rest → R (spell tree)) → ((text : List Lexical) → R text → Spells spell text) → Leads all P R E at mid
refined_tree all P spell R E at mid h forth back = refined all P (Spells spell) R E at mid h
    (λ text rest k s e. subst R s.spelled (forth s.tree rest (subst (λ xs. Heads all mid (xs ++ rest)) (sym s.spelled) k) e)) back

pub follows_tree : {X : Type 0} (spell : X → List Lexical) (E F : List Lexical → Type 0) → ((tree : X) (rest : List Lexical) → E rest → F (spell tree ++ rest)) → Follows (Spells spell) E F
follows_tree spell E F h text rest s e = subst (λ xs. F (xs ++ rest)) s.spelled (h s.tree rest e)

pub ends_of : (all : List Lexical) (P Q E : List Lexical → Type 0) (at next : ℕ) → ((text : List Lexical) → P text → Q text) → Ends all Q E at next → Ends all P E at next
ends_of all P Q E at next f h = record { ends = λ others rest same s. h.ends others rest same (record { text = s.text; here = s.here; is = f s.text s.is; behind = s.behind }) }

-- ---- lists

-- trees, each behind a sign
abbrev pub more_text : {X : Type 0} (spell : X → List Lexical) (between : Lexical) → List X → List Lexical
more_text spell between [] = []
more_text spell between (x ∷ xs) = between ∷ spell x ++ more_text spell between xs

listed_more : {X : Type 0} (spell : X → List Lexical) (between : Lexical) (first : X) (more : List X) → listed between (map spell (first ∷ more)) ≡ spell first ++ more_text spell between more
listed_more spell between first [] = sym (append-nil (spell first))
listed_more spell between first (x ∷ xs) = ap (λ ys. spell first ++ between ∷ ys) (listed_more spell between x xs)

-- an item and then others
abbrev pub Items : {X : Type 0} (spell : X → List Lexical) (between : Lexical) → List Lexical → Type 0
Items spell between = Then (Spells spell) (Spells (more_text spell between))

pub list_start : (all : List Lexical) {X : Type 0} (spell : X → List Lexical) (between : Lexical) (E : List Lexical → Type 0) (at : ℕ) → at ≤ length all → Leads all (SpellsList spell between) (Items spell between) E at at
list_start all spell between E at within = refined all (SpellsList spell between) (SpellsList spell between) (Items spell between) E at at (start all (SpellsList spell between) E at within)
    (λ text rest h s e. record { first = spell s.first; second = more_text spell between s.more; one = a_spelling spell s.first; other = a_spelling (more_text spell between) s.more; whole = sym s.spelled ∙ listed_more spell between s.first s.more })
    (λ text i. record { first = i.one.tree; more = i.other.tree; spelled = listed_more spell between i.one.tree i.other.tree ∙ ap (λ xs. xs ++ more_text spell between i.other.tree) i.one.spelled ∙ ap (λ xs. i.first ++ xs) i.other.spelled ∙ sym i.whole })

next_tree : {X : Type 0} (spell : X → List Lexical) (between : Lexical) (f : Lexical → Bool) (all : List Lexical) (mid : ℕ) → f between ≡ false → Next all mid between → (tree : List X) (rest : List Lexical)
    → Heads all mid (more_text spell between tree ++ rest) → Behind f rest → Tok between (Items spell between) (more_text spell between tree)
next_tree spell between f all mid e n [] rest h b = absurd (no_rest all mid between f rest h n b e)
next_tree spell between f all mid e n (x ∷ xs) rest h b = tok_in between (Items spell between) (spell x ++ more_text spell between xs) (then_in (Spells spell) (Spells (more_text spell between)) (spell x) (more_text spell between xs) (a_spelling spell x) (a_spelling (more_text spell between) xs))

more_back : {X : Type 0} (spell : X → List Lexical) (between : Lexical) (text : List Lexical) → Tok between (Items spell between) text → Spells (more_text spell between) text
more_back spell between text h = let k = tok_out between (Items spell between) text h in
    record { tree = k.2.one.tree ∷ k.2.other.tree; spelled = ap (λ xs. between ∷ xs ++ more_text spell between k.2.other.tree) k.2.one.spelled ∙ ap (λ xs. between ∷ k.2.first ++ xs) k.2.other.spelled ∙ ap (λ xs. between ∷ xs) (sym k.2.whole) ∙ sym k.1 }

-- the sign between items is read
pub list_next : (all : List Lexical) (P : List Lexical → Type 0) {X : Type 0} (spell : X → List Lexical) (between : Lexical) (f : Lexical → Bool) (at mid next : ℕ) → Leads all P (Spells (more_text spell between)) (Behind f) at mid → f between ≡ false
    → next ≡ mid + 1 → Next all mid between → Leads all P (Items spell between) (Behind f) at next
list_next all P spell between f at mid next h e q n = token all P (Items spell between) (Behind f) (λ y. y ≡ between) at mid next between
    (refined_tree all P (more_text spell between) (Tok between (Items spell between)) (Behind f) at mid h (next_tree spell between f all mid e n) (more_back spell between)) q n refl

more_follow : {X : Type 0} (spell : X → List Lexical) (between : Lexical) (f g : Lexical → Bool) → ((x : Lexical) → f x ≡ true → g x ≡ true) → g between ≡ true → (tree : List X) (rest : List Lexical) → Behind f rest → Behind g (more_text spell between tree ++ rest)
more_follow spell between f g h e [] rest b = weaker f g h rest b
more_follow spell between f g h e (x ∷ xs) rest b = e

-- an item is read
pub list_item : (all : List Lexical) (P : List Lexical → Type 0) {X : Type 0} (spell : X → List Lexical) (between : Lexical) (f g : Lexical → Bool) (at mid next : ℕ) → Leads all P (Items spell between) (Behind f) at mid → ((x : Lexical) → f x ≡ true → g x ≡ true)
    → g between ≡ true → Reads all mid next (Spells spell) → Ends all (Spells spell) (Behind g) mid next → Leads all P (Spells (more_text spell between)) (Behind f) at next
list_item all P spell between f g at mid next h w e r k = part all P (Spells spell) (Spells (more_text spell between)) (Behind f) (Behind g) at mid next h r k (follows_tree (more_text spell between) (Behind f) (Behind g) (more_follow spell between f g w e))

-- no item stands there
pub list_stops : (all : List Lexical) (P : List Lexical → Type 0) {X : Type 0} (spell : X → List Lexical) (between : Lexical) (f g : Lexical → Bool) (at mid : ℕ) (s : Stop) → Leads all P (Items spell between) (Behind f) at mid → ((x : Lexical) → f x ≡ true → g x ≡ true)
    → g between ≡ true → Halts (Stops all (Spells spell) (Behind g) mid) s → Halts (Stops all P (Behind f) at) s
list_stops all P spell between f g at mid s h w e k = part_stops all P (Spells spell) (Spells (more_text spell between)) (Behind f) (Behind g) at mid s [] h k (follows_tree (more_text spell between) (Behind f) (Behind g) (more_follow spell between f g w e)) (a_spelling (more_text spell between) [])

no_more : {X : Type 0} (spell : X → List Lexical) (between : Lexical) (all : List Lexical) (mid : ℕ) → (Next all mid between → ⊥) → (tree : List X) (rest : List Lexical) → Heads all mid (more_text spell between tree ++ rest) → more_text spell between tree ≡ []
no_more spell between all mid none [] rest h = refl
no_more spell between all mid none (x ∷ xs) rest h = absurd (none (h.some between ((spell x ++ more_text spell between xs) ++ rest) refl))

-- no sign stands behind the items
pub list_done : (all : List Lexical) (P : List Lexical → Type 0) {X : Type 0} (spell : X → List Lexical) (between : Lexical) (E : List Lexical → Type 0) (at mid : ℕ) → Leads all P (Spells (more_text spell between)) E at mid → (Next all mid between → ⊥) → Ends all P E at mid
list_done all P spell between E at mid h none = done all P E at mid (refined_tree all P (more_text spell between) (Is []) E at mid h (λ tree rest k e. no_more spell between all mid none tree rest k) (λ text e. record { tree = []; spelled = sym e }))

-- ---- faults that are passed on

pub passes : {T F : Type 0} (r : Result T F) (A : F → Type 0) (s : F) → IsErrAnd r (λ t. t ≡ s) → A s → IfErr r A
passes (Ok x) A s h a = tt
passes (Err t) A s h a = subst A (sym h) a

-- ---- parts in order

-- this token is read
pub sign_on : {all : List Lexical} {P R E : List Lexical → Type 0} {at mid next : ℕ} {x : Lexical} → Leads all P (Tok x R) E at mid → (next ≡ mid + 1) × Next all mid x → Leads all P R E at next
sign_on {all} {P} {R} {E} {at} {mid} {next} {x} h n = token all P R E (λ y. y ≡ x) at mid next x h n.0 n.1 refl

-- this token is missing
pub no_sign : (s : Stop) {all : List Lexical} {P R E : List Lexical → Type 0} {at mid : ℕ} {x : Lexical} {text : List Lexical} → Leads all P (Tok x R) E at mid → R text → Halts (NoneNext all mid (λ y. y ≡ x)) s → Halts (Stops all P E at) s
no_sign s {all} {P} {R} {E} {at} {mid} {x} {text} h r k = token_stops all P R E (λ y. y ≡ x) at mid s x text h k refl r

-- the token of a name
abbrev pub IsNameToken : Lexical → Type 0
IsNameToken x = (n : Name) × (x ≡ word n.word)

-- a name is read
pub name_on : {all : List Lexical} {P R E : List Lexical → Type 0} {at mid next : ℕ} {S : Type 0} {w : List ℕ} → Leads all P (Then (Token IsNameToken) R) E at mid → Reads all mid next (IsItem S name_text word_of w) → next ≡ mid + 1 → Leads all P R E at next
name_on {all} {P} {R} {E} {at} {mid} {next} {S} {w} h r e = part all P (Token IsNameToken) R E AnyRest at mid next h
    (as_well all mid next (IsItem S name_text word_of w) (Token IsNameToken) r (λ t i. record { token = word i.tree.word; is = (i.tree, refl); whole = sym i.spelled })) (token_ends all IsNameToken mid next e) (λ text rest q b. tt)

-- a name
pub some_name : Name
some_name = record { word = []; free = refl }

pub no_name : (s : Stop) {all : List Lexical} {P R E : List Lexical → Type 0} {at mid : ℕ} {text : List Lexical} → Leads all P (Then (Token IsNameToken) R) E at mid → R text → Halts (NoneNext all mid (λ x. (n : Name) × (x ≡ word n.word))) s → Halts (Stops all P E at) s
no_name s {all} {P} {R} {E} {at} {mid} {text} h r k = token_stops all P R E IsNameToken at mid s (word some_name.word) text h k (some_name, refl) r

-- the token of a kind
abbrev pub IsKindToken : Lexical → Type 0
IsKindToken x = (k : Kind) × (x ≡ word (kind_word k))

pub kind_on : {all : List Lexical} {P R E : List Lexical → Type 0} {at mid next : ℕ} (kind : Kind) → Leads all P (Then (Token IsKindToken) R) E at mid → (next ≡ mid + 1) × Next all mid (word (kind_word kind)) → Leads all P R E at next
kind_on {all} {P} {R} {E} {at} {mid} {next} kind h n = token all P R E IsKindToken at mid next (word (kind_word kind)) h n.0 n.1 (kind, refl)

pub no_kind : (s : Stop) {all : List Lexical} {P R E : List Lexical → Type 0} {at mid : ℕ} {text : List Lexical} → Leads all P (Then (Token IsKindToken) R) E at mid → R text → Halts (NoneNext all mid (λ x. (k : Kind) × (x ≡ word (kind_word k)))) s → Halts (Stops all P E at) s
no_kind s {all} {P} {R} {E} {at} {mid} {text} h r k = token_stops all P R E IsKindToken at mid s (word (kind_word I32)) text h k (I32, refl) r

-- a part is read
pub part_on : {all : List Lexical} {P Q R E F : List Lexical → Type 0} {at mid next : ℕ} → Leads all P (Then Q R) E at mid → Reads all mid next Q → Ends all Q F mid next → Follows R E F → Leads all P R E at next
part_on {all} {P} {Q} {R} {E} {F} {at} {mid} {next} h r k follows = part all P Q R E F at mid next h r k follows

-- a part is missing
pub no_part : (s : Stop) {all : List Lexical} {P Q R E : List Lexical → Type 0} {at mid : ℕ} {text : List Lexical} (F : List Lexical → Type 0) → Leads all P (Then Q R) E at mid → R text → Follows R E F → Halts (Stops all Q F mid) s → Halts (Stops all P E at) s
no_part s {all} {P} {Q} {R} {E} {at} {mid} {text} F h r follows k = part_stops all P Q R E F at mid s text h k follows r

-- what is read is such a text
pub spelled : {S : Type 0} {X T : Type 0} {spell : X → List Lexical} {mean : X → T} {v : T} {all : List Lexical} {a b : ℕ} → Reads all a b (IsItem S spell mean v) → Reads all a b (Spells spell)
spelled {S} {X} {T} {spell} {mean} {v} {all} {a} {b} h = as_well all a b (IsItem S spell mean v) (Spells spell) h (λ t i. record { tree = i.tree; spelled = i.spelled })

pub exactly : {X : Type 0} (spell : X → List Lexical) (tree : X) {all : List Lexical} {a b : ℕ} → Reads all a b (Is (spell tree)) → Reads all a b (Spells spell)
exactly {X} spell tree {all} {a} {b} h = as_well all a b (Is (spell tree)) (Spells spell) h (λ t e. record { tree = tree; spelled = sym e })

pub spelled_list : {S : Type 0} {X T : Type 0} {spell : X → List Lexical} {mean : X → T} {between : Lexical} {v : List T} {all : List Lexical} {a b : ℕ} → Reads all a b (IsList S spell mean between v) → Reads all a b (SpellsList spell between)
spelled_list {S} {X} {T} {spell} {mean} {between} {v} {all} {a} {b} h = as_well all a b (IsList S spell mean between v) (SpellsList spell between) h (λ t i. record { first = i.first; more = i.more; spelled = i.spelled })

-- the last part is read
pub ends_on : {all : List Lexical} {P Q E F : List Lexical → Type 0} {at mid next : ℕ} → Leads all P Q E at mid → mid ≤ next → Ends all Q F mid next → ((rest : List Lexical) → E rest → F rest) → Ends all P E at next
ends_on {all} {P} {Q} {E} {F} {at} {mid} {next} h on k follows = last_ends all P Q E F at mid next h on k follows

-- the last part is missing
pub no_last : (s : Stop) {all : List Lexical} {P Q E F : List Lexical → Type 0} {at mid : ℕ} → Leads all P Q E at mid → ((rest : List Lexical) → E rest → F rest) → Halts (Stops all Q F mid) s → Halts (Stops all P E at) s
no_last s {all} {P} {Q} {E} {F} {at} {mid} h follows k = last_stops all P Q E F at mid s h follows k

-- all is read
pub ended : {all : List Lexical} {P E : List Lexical → Type 0} {at next : ℕ} → Leads all P (Is []) E at next → Ends all P E at next
ended {all} {P} {E} {at} {next} h = done all P E at next h

-- the text begins with this token, which stands there
pub opens : (all : List Lexical) {X : Type 0} (spell : X → List Lexical) (x : Lexical) (Q E : List Lexical → Type 0) (at : ℕ) → ((tree : X) → Tok x Q (spell tree)) → ((text : List Lexical) → Tok x Q text → Spells spell text) → Next all at x → Leads all (Spells spell) Q E at (at + 1)
opens all spell x Q E at forth back n = token all (Spells spell) Q E (λ y. y ≡ x) at at (at + 1) x
    (refined_tree all (Spells spell) spell (Tok x Q) E at at (start all (Spells spell) E at (omega (arith, n.within))) (λ tree rest h e. forth tree) back) refl n refl

-- ---- parts that may be missing

-- What stands there is one of the texts of the sort.
pub first : (all : List Lexical) {X : Type 0} (spell : X → List Lexical) (R E : List Lexical → Type 0) (at : ℕ) → at ≤ length all → ((tree : X) (rest : List Lexical) → Heads all at (spell tree ++ rest) → E rest → R (spell tree))
    → ((text : List Lexical) → R text → Spells spell text) → Leads all (Spells spell) R E at at
first all spell R E at within forth back = refined_tree all (Spells spell) spell R E at at (start all (Spells spell) E at within) forth back

-- The text is empty, or begins with a token of the sort.
pub data MayBegin (X : Lexical → Type 0) (text : List Lexical) : Type 0 where
  not_there : text ≡ [] → MayBegin X text
  begins : (x : Lexical) (more : List Lexical) → X x → text ≡ x ∷ more → MayBegin X text

missing : (all : List Lexical) (at : ℕ) (X : Lexical → Type 0) (text rest : List Lexical) → ((x : Lexical) → X x → Next all at x → ⊥) → Heads all at (text ++ rest) → MayBegin X text → text ≡ []
missing all at X text rest none h (not_there e) = e
missing all at X text rest none h (begins x more is e) = absurd (none x is (h.some x (more ++ rest) (ap (λ xs. xs ++ rest) e)))

-- an optional part ends where none of the tokens with which it begins stands
pub absent : (all : List Lexical) {Y : Type 0} (spell : Y → List Lexical) (X : Lexical → Type 0) (E : List Lexical → Type 0) (at : ℕ) (tree : Y) → spell tree ≡ [] → ((t : Y) → MayBegin X (spell t)) → at ≤ length all → ((x : Lexical) → X x → Next all at x → ⊥)
    → Ends all (Spells spell) E at at
absent all spell X E at tree e may within none = done all (Spells spell) E at at (first all spell (Is []) E at within (λ t rest h b. missing all at X (spell t) rest none h (may t)) (λ text k. record { tree = tree; spelled = e ∙ sym k }))

pub next_within : (all : List Lexical) (at : ℕ) (x : Lexical) → Next all at x → at ≤ length all
next_within all at x n = omega (arith, n.within)

pub any_out : (X : Lexical → Type 0) (Q : List Lexical → Type 0) (text : List Lexical) → Then (Token X) Q text → (x : Lexical) × (more : List Lexical) × X x × Q more × (text ≡ x ∷ more)
any_out X Q text h = (h.one.token, h.second, h.one.is, h.other, h.whole ∙ ap (λ xs. xs ++ h.second) h.one.whole)

pub any_in : (X : Lexical → Type 0) (Q : List Lexical → Type 0) (x : Lexical) (text : List Lexical) → X x → Q text → Then (Token X) Q (x ∷ text)
any_in X Q x text is q = record { first = x ∷ []; second = text; one = record { token = x; is = is; whole = refl }; other = q; whole = refl }

pub any_rest : (E : List Lexical → Type 0) (rest : List Lexical) → E rest → AnyRest rest
any_rest E rest e = tt

-- a name is the last part
pub name_last : {all : List Lexical} {P E : List Lexical → Type 0} {at mid : ℕ} → Leads all P (Spells name_text) E at mid → Leads all P (Then (Token IsNameToken) (Is [])) E at mid
name_last {all} {P} {E} {at} {mid} h = refined_tree all P name_text (Then (Token IsNameToken) (Is [])) E at mid h (λ tree rest k b. any_in IsNameToken (Is []) (word tree.word) [] (tree, refl) refl)
    (λ text t. let k = any_out IsNameToken (Is []) text t in record { tree = k.2.0; spelled = ap (λ xs. word k.2.0.word ∷ xs) (sym k.3) ∙ ap (λ (y : Lexical). y ∷ k.1) (sym k.2.1) ∙ sym k.4 })

-- the text begins with another token than stands there
pub not_head : (all : List Lexical) (at : ℕ) (x y : Lexical) (more : List Lexical) (f : Lexical → Bool) → Heads all at (y ∷ more) → Next all at x → f y ≡ true → f x ≡ false → ⊥
not_head all at x y more f h n a b = let k : true ≡ false = sym a ∙ ap f (head_is all at x y more h n) ∙ b in absurd (cc)

-- ---- results that are handed on

pub ends_through : {T : Type 0} (r : Result (T × ℕ) Stop) {all : List Lexical} {P Q E : List Lexical → Type 0} {at mid : ℕ} (F : List Lexical → Type 0) (R : T → List Lexical → Type 0) → Leads all P Q E at mid → ((rest : List Lexical) → E rest → F rest)
    → IfOk r (λ read. Reads all mid read.1 (R read.0)) → IfOk r (λ read. Ends all Q F mid read.1) → IfOk r (λ read. Ends all P E at read.1)
ends_through (Ok read) {all} {P} {Q} {E} {at} {mid} F R h follows k e = last_ends all P Q E F at mid read.1 h k.on e follows
ends_through (Err s) F R h follows k e = tt

pub stops_through : {T : Type 0} (r : Result T Stop) {all : List Lexical} {P Q E : List Lexical → Type 0} {at mid : ℕ} (F : List Lexical → Type 0) → Leads all P Q E at mid → ((rest : List Lexical) → E rest → F rest) → IfErr r (Halts (Stops all Q F mid)) → IfErr r (Halts (Stops all P E at))
stops_through (Ok read) F h follows k = tt
stops_through (Err s) {all} {P} {Q} {E} {at} {mid} F h follows k = last_stops all P Q E F at mid s h follows k

-- what may stand behind stays the same
pub same_rest : (E : List Lexical → Type 0) (rest : List Lexical) → E rest → E rest
same_rest E rest e = e

-- an expression
pub an_or : Or
an_or = or_of (and_of (not_of (cmp_of (bor_of (bxor_of (band_of (shift_of (sum_of (prod_of (unary_of (digits [])))))))))))

pub some_or : Spells or_text (or_text an_or)
some_or = a_spelling or_text an_or

-- ---- what follows

-- a tree's text and a text behind it
pub pasted : {X : Type 0} (spell : X → List Lexical) (Q : List Lexical → Type 0) (text u : List Lexical) → (h : Then (Spells spell) Q text) → u ≡ h.second → spell h.one.tree ++ u ≡ text
pasted spell Q text u h e = ap (λ xs. xs ++ u) h.one.spelled ∙ ap (λ xs. h.first ++ xs) e ∙ sym h.whole

-- a name and a text behind it
pub pasted_name : (Q : List Lexical → Type 0) (text u : List Lexical) → (h : Then (Token IsNameToken) Q text) → u ≡ h.second → word h.one.is.0.word ∷ u ≡ text
pasted_name Q text u h e = ap (λ (y : Lexical). y ∷ u) (sym h.one.is.1) ∙ ap (λ xs. h.one.token ∷ xs) e ∙ ap (λ xs. xs ++ h.second) (sym h.one.whole) ∙ sym h.whole

-- a token and a text behind it
pub pasted_sign : (x : Lexical) (Q : List Lexical → Type 0) (text u : List Lexical) → (h : Tok x Q text) → u ≡ h.second → x ∷ u ≡ text
pasted_sign x Q text u h e = ap (λ (y : Lexical). y ∷ u) (sym h.one.is) ∙ ap (λ xs. h.one.token ∷ xs) e ∙ ap (λ xs. xs ++ h.second) (sym h.one.whole) ∙ sym h.whole

pub name_in : (Q : List Lexical → Type 0) (name : Name) (text : List Lexical) → Q text → Then (Token IsNameToken) Q (word name.word ∷ text)
name_in Q name text q = any_in IsNameToken Q (word name.word) text (name, refl) q

pub tree_in : {X : Type 0} (spell : X → List Lexical) (Q : List Lexical → Type 0) (tree : X) (text : List Lexical) → Q text → Then (Spells spell) Q (spell tree ++ text)
tree_in spell Q tree text q = then_in (Spells spell) Q (spell tree) text (a_spelling spell tree) q

pub token_follows : (X : Lexical → Type 0) (Q E : List Lexical → Type 0) (f : Lexical → Bool) → ((x : Lexical) → X x → f x ≡ true) → Follows (Then (Token X) Q) E (Behind f)
token_follows X Q E f e text rest t b = let k = any_out X Q text t in subst (λ xs. Behind f (xs ++ rest)) (sym k.4) (e k.0 k.2)

pub tree_follows : {X : Type 0} (spell : X → List Lexical) (Q E F : List Lexical → Type 0) → ((tree : X) (more : List Lexical) → F (spell tree ++ more)) → Follows (Then (Spells spell) Q) E F
tree_follows spell Q E F h text rest t b = subst F (sym (append_assoc (spell t.one.tree) t.second rest) ∙ ap (λ xs. xs ++ rest) (pasted spell Q text t.second t refl)) (h t.one.tree (t.second ++ rest))
