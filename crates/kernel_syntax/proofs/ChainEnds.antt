-- Where chains and conditions end, and why none stand there.
use Rattle.std.proofs.Common.{◌≡◌, ◌≤◌, ◌+◌, ℕ, true, false, not, List, [], ◌∷◌, ◌++◌, take, drop, length, ap, sym, refl, ◌∙◌, subst, arith}
use Rattle.kernel_grammar.specs.declared.item.Relation.{Relation}
use Rattle.kernel_grammar.specs.declared.item.Chain as chained
use Rattle.kernel_grammar.specs.declared.step.Step.{Step}
use Rattle.kernel_grammar.specs.Lexicals.{Lexical, key}
use Rattle.kernel_grammar.specs.Trees.{Rel, at_most, less, at_least, more, equal, equals, Sums, one, sum_of, prod_of, unary_of, digits}
use Rattle.kernel_grammar.specs.Lines.{Chain, links_text, chain_text}
use Rattle.kernel_grammar.specs.Spelling.{rel_text, sums_text}
use Rattle.kernel_grammar.specs.Steps.{sums_steps}
use Rattle.kernel_grammar.specs.Syntax.{chain_of}
use Rattle.kernel_expressions.specs.declared.stop.Stop.{Stop}
use Rattle.kernel_expressions.specs.Levels.{IsRelation}
use Rattle.kernel_expressions.specs.Reads.{Next, Reads, IsItem}
use Rattle.kernel_expressions.specs.Settled.{Begins, Behind, Ends, Halts, Spells, SpellsList, Stops, ends_sums}
use Rattle.kernel_expressions.proofs.Join.{as_well, text_length}
use Rattle.kernel_syntax.specs.Behinds.{is_relation, ends_links, ends_conditions}
use Rattle.kernel_syntax.specs.Parts.{Is, IsLinks}
use Rattle.kernel_syntax.proofs.Leads.{Heads, Leads, Then, Tok, start, part, token, done, last_ends, last_stops, part_stops, halts, leads_stop, refined_tree, follows_tree, ends_of, no_rest, head_is, both, weaker, tok_in, tok_out, then_in, a_spelling, nothing_stops, more_text, Items, list_start, list_next, list_item, list_stops, list_done}

-- what is read is such a text
pub item_spells : (S : Type 0) {X T : Type 0} (spell : X → List Lexical) (mean : X → T) (v : T) (all : List Lexical) (a b : ℕ) → Reads all a b (IsItem S spell mean v) → Reads all a b (Spells spell)
item_spells S spell mean v all a b h = as_well all a b (IsItem S spell mean v) (Spells spell) h (λ t i. record { tree = i.tree; spelled = i.spelled })

-- sums
pub some_sums : Sums
some_sums = one (sum_of (prod_of (unary_of (digits []))))

relation_is : (rel : Rel) → is_relation (rel_text rel) ≡ true
relation_is at_most = refl
relation_is less = refl
relation_is at_least = refl
relation_is more = refl
relation_is equal = refl
relation_is equals = refl

relation_ends : (rel : Rel) → ends_sums (rel_text rel) ≡ true
relation_ends at_most = refl
relation_ends less = refl
relation_ends at_least = refl
relation_ends more = refl
relation_ends equal = refl
relation_ends equals = refl

relation_no_end : (rel : Rel) → ends_links (rel_text rel) ≡ false
relation_no_end at_most = refl
relation_no_end less = refl
relation_no_end at_least = refl
relation_no_end more = refl
relation_no_end equal = refl
relation_no_end equals = refl

links_are_sums : (x : Lexical) → ends_links x ≡ true → ends_sums x ≡ true
links_are_sums x e = (both (ends_sums x) (not (is_relation x)) e).0

pub conditions_are_links : (x : Lexical) → ends_conditions x ≡ true → ends_links x ≡ true
conditions_are_links x e = (both (ends_links x) _ e).0

links_follow : (tree : List (Rel × Sums)) (rest : List Lexical) → Behind ends_links rest → Behind ends_sums (links_text tree ++ rest)
links_follow [] rest b = weaker ends_links ends_sums links_are_sums rest b
links_follow (link ∷ links) rest b = relation_ends link.0

-- a list and links behind it
abbrev pub Linked : List Lexical → Type 0
Linked = Then (Spells sums_text) (Spells links_text)

links_tree : (all : List Lexical) (mid : ℕ) (rel : Rel) → Next all mid (rel_text rel) → (tree : List (Rel × Sums)) (rest : List Lexical) → Heads all mid (links_text tree ++ rest) → Behind ends_links rest → Tok (rel_text rel) Linked (links_text tree)
links_tree all mid rel n [] rest h b = absurd (no_rest all mid (rel_text rel) ends_links rest h n b (relation_no_end rel))
links_tree all mid rel n (link ∷ links) rest h b =
    subst (λ (y : Lexical). Tok (rel_text rel) Linked (y ∷ sums_text link.1 ++ links_text links)) (sym (head_is all mid (rel_text rel) (rel_text link.0) ((sums_text link.1 ++ links_text links) ++ rest) h n))
    (tok_in (rel_text rel) Linked (sums_text link.1 ++ links_text links) (then_in (Spells sums_text) (Spells links_text) (sums_text link.1) (links_text links) (a_spelling sums_text link.1) (a_spelling links_text links)))

links_back : (rel : Rel) (text : List Lexical) → Tok (rel_text rel) Linked text → Spells links_text text
links_back rel text h = let k = tok_out (rel_text rel) Linked text h in
    record { tree = (rel, k.2.one.tree) ∷ k.2.other.tree; spelled = ap (λ xs. rel_text rel ∷ xs ++ links_text k.2.other.tree) k.2.one.spelled ∙ ap (λ xs. rel_text rel ∷ k.2.first ++ xs) k.2.other.spelled ∙ ap (λ xs. rel_text rel ∷ xs) (sym k.2.whole) ∙ sym k.1 }

-- links that are read up to the place
pub links_to : List Lexical → ℕ → ℕ → Type 0
links_to all at mid = Leads all (Spells links_text) (Spells links_text) (Behind ends_links) at mid

-- a relation is read
links_relation : (all : List Lexical) (relation : Relation) (at mid : ℕ) → links_to all at mid → ((x : Lexical) × Next all mid x × IsRelation relation x) → Leads all (Spells links_text) Linked (Behind ends_links) at (mid + 1)
unfolding links_to
links_relation all relation at mid h r =
    let n : Next all mid (rel_text r.2.rel) = subst (λ (y : Lexical). Next all mid y) (sym r.2.spelled) r.1 in
    token all (Spells links_text) Linked (Behind ends_links) (λ y. y ≡ rel_text r.2.rel) at mid (mid + 1) (rel_text r.2.rel)
    (refined_tree all (Spells links_text) links_text (Tok (rel_text r.2.rel) Linked) (Behind ends_links) at mid h (links_tree all mid r.2.rel n) (links_back r.2.rel)) refl n refl

pub links_go : (S : Type 0) (next : List (List Step)) (all : List Lexical) (relation : Relation) (at mid c : ℕ) → links_to all at mid → ((x : Lexical) × Next all mid x × IsRelation relation x) → Reads all (mid + 1) c (IsItem S sums_text sums_steps next)
    → Ends all (Spells sums_text) (Behind ends_sums) (mid + 1) c → links_to all at c
unfolding links_to
links_go S next all relation at mid c h r k e = part all (Spells links_text) (Spells sums_text) (Spells links_text) (Behind ends_links) (Behind ends_sums) at (mid + 1) c (links_relation all relation at mid h r) (item_spells S sums_text sums_steps next all (mid + 1) c k) e
    (follows_tree links_text (Behind ends_links) (Behind ends_sums) links_follow)

pub links_start : (all : List Lexical) (at : ℕ) → at ≤ length all → links_to all at at
unfolding links_to
links_start all at within = start all (Spells links_text) (Behind ends_links) at within

within_on : (all : List Lexical) (at : ℕ) (x : Lexical) → Next all at x → at + 1 ≤ length all
within_on all at x n = omega (arith, n.within)

pub links_stop : (all : List Lexical) (relation : Relation) (at mid : ℕ) (s : Stop) → links_to all at mid → ((x : Lexical) × Next all mid x × IsRelation relation x)
    → (mid + 1 ≤ length all → Halts (Stops all (Spells sums_text) (Behind ends_sums) (mid + 1)) s) → Halts (Stops all (Spells links_text) (Behind ends_links) at) s
unfolding links_to
links_stop all relation at mid s h r k = part_stops all (Spells links_text) (Spells sums_text) (Spells links_text) (Behind ends_links) (Behind ends_sums) at (mid + 1) s [] (links_relation all relation at mid h r) (k (within_on all mid r.0 r.1))
    (follows_tree links_text (Behind ends_links) (Behind ends_sums) links_follow) (a_spelling links_text [])

no_links : (all : List Lexical) (mid : ℕ) → ((rel : Rel) → Next all mid (rel_text rel) → ⊥) → (tree : List (Rel × Sums)) (rest : List Lexical) → Heads all mid (links_text tree ++ rest) → links_text tree ≡ []
no_links all mid none [] rest h = refl
no_links all mid none (link ∷ links) rest h = absurd (none link.0 (h.some (rel_text link.0) ((sums_text link.1 ++ links_text links) ++ rest) refl))

pub links_end : (all : List Lexical) (at mid : ℕ) → links_to all at mid → ((rel : Rel) → Next all mid (rel_text rel) → ⊥) → Ends all (Spells links_text) (Behind ends_links) at mid
unfolding links_to
links_end all at mid h none = done all (Spells links_text) (Behind ends_links) at mid
    (refined_tree all (Spells links_text) links_text (Is []) (Behind ends_links) at mid h (λ tree rest k e. no_links all mid none tree rest k) (λ text e. record { tree = []; spelled = sym e }))

-- ---- chains

-- one link or more
abbrev pub some_links : (Rel × Sums) × List (Rel × Sums) → List Lexical
some_links links = links_text (links.0 ∷ links.1)

-- a list and one link or more behind it
abbrev pub Chained : List Lexical → Type 0
Chained = Then (Spells sums_text) (Spells some_links)

some_link : (Rel × Sums) × List (Rel × Sums)
some_link = ((at_most, some_sums), [])

chain_start : (all : List Lexical) (at : ℕ) → at ≤ length all → Leads all (Spells chain_text) Chained (Behind ends_links) at at
chain_start all at within = refined_tree all (Spells chain_text) chain_text Chained (Behind ends_links) at at (start all (Spells chain_text) (Behind ends_links) at within)
    (λ (tree : Chain) rest h e. then_in (Spells sums_text) (Spells some_links) (sums_text tree.first) (some_links ((tree.rel, tree.second), tree.more)) (a_spelling sums_text tree.first) (a_spelling some_links ((tree.rel, tree.second), tree.more)))
    (λ text i. record {
      tree = record { first = i.one.tree; rel = i.other.tree.0.0; second = i.other.tree.0.1; more = i.other.tree.1 };
      spelled = ap (λ xs. xs ++ some_links i.other.tree) i.one.spelled ∙ ap (λ xs. i.first ++ xs) i.other.spelled ∙ sym i.whole;
    })

pub chain_first : (all : List Lexical) (at : ℕ) (s : Stop) → at ≤ length all → (at ≤ length all → Halts (Stops all (Spells sums_text) (Behind ends_sums) at) s) → Halts (Stops all (Spells chain_text) (Behind ends_links) at) s
chain_first all at s within k = part_stops all (Spells chain_text) (Spells sums_text) (Spells some_links) (Behind ends_links) (Behind ends_sums) at at s (some_links some_link) (chain_start all at within) (k within)
    (follows_tree some_links (Behind ends_links) (Behind ends_sums) (λ tree rest b. relation_ends tree.0.0)) (a_spelling some_links some_link)

chain_mid : (S : Type 0) (first : List (List Step)) (all : List Lexical) (at mid : ℕ) → at ≤ length all → Reads all at mid (IsItem S sums_text sums_steps first) → Ends all (Spells sums_text) (Behind ends_sums) at mid
    → Leads all (Spells chain_text) (Spells some_links) (Behind ends_links) at mid
chain_mid S first all at mid within h e = part all (Spells chain_text) (Spells sums_text) (Spells some_links) (Behind ends_links) (Behind ends_sums) at at mid (chain_start all at within) (item_spells S sums_text sums_steps first all at mid h) e
    (follows_tree some_links (Behind ends_links) (Behind ends_sums) (λ tree rest b. relation_ends tree.0.0))

are_links : (text : List Lexical) → Spells some_links text → Spells links_text text
are_links text s = record { tree = s.tree.0 ∷ s.tree.1; spelled = s.spelled }

some_begun : (front text : List Lexical) (tree : List (Rel × Sums)) → links_text tree ≡ front ++ text → Begins (Spells some_links) front
some_begun [] text [] e = record { more = some_links some_link; is = a_spelling some_links some_link }
some_begun (x ∷ front) text [] e = absurd (cc)
some_begun front text (link ∷ links) e = record { more = text; is = record { tree = (link, links); spelled = e } }

some_stop : (all : List Lexical) (E : List Lexical → Type 0) (at last : ℕ) → Stops all (Spells links_text) E at last → Stops all (Spells some_links) E at last
some_stop all E at last h = record {
  on = h.on;
  within = h.within;
  none = λ others rest same s. h.none others rest same (record { text = s.text; here = s.here; is = are_links s.text s.is; behind = s.behind });
  begun = some_begun (drop at (take last all)) h.begun.more h.begun.is.tree h.begun.is.spelled;
}

pub chain_rest : (S : Type 0) (first : List (List Step)) (all : List Lexical) (at mid : ℕ) (s : Stop) → at ≤ length all → Reads all at mid (IsItem S sums_text sums_steps first) → Ends all (Spells sums_text) (Behind ends_sums) at mid
    → Halts (Stops all (Spells links_text) (Behind ends_links) mid) s → Halts (Stops all (Spells chain_text) (Behind ends_links) at) s
chain_rest S first all at mid s within h e k = last_stops all (Spells chain_text) (Spells some_links) (Behind ends_links) (Behind ends_links) at mid s (chain_mid S first all at mid within h e) (λ rest b. b)
    (halts (Stops all (Spells links_text) (Behind ends_links) mid) (Stops all (Spells some_links) (Behind ends_links) mid) s (some_stop all (Behind ends_links) mid) k)

pub reads_within : (all : List Lexical) (a b : ℕ) (P : List Lexical → Type 0) → Reads all a b P → a ≤ length all
reads_within all a b P h = omega (arith, h.on, h.within)

pub chain_ends : (S : Type 0) (first : List (List Step)) (all : List Lexical) (at mid next : ℕ) (P : List Lexical → Type 0) → Reads all at mid (IsItem S sums_text sums_steps first) → Ends all (Spells sums_text) (Behind ends_sums) at mid
    → Reads all mid next P → Ends all (Spells links_text) (Behind ends_links) mid next → Ends all (Spells chain_text) (Behind ends_links) at next
chain_ends S first all at mid next P h e k f = last_ends all (Spells chain_text) (Spells some_links) (Behind ends_links) (Behind ends_links) at mid next
    (chain_mid S first all at mid (reads_within all at mid (IsItem S sums_text sums_steps first) h) h e) k.on (ends_of all (Spells some_links) (Spells links_text) (Behind ends_links) mid next are_links f) (λ rest b. b)

-- no links are read
links_nil : (rest : List (Relation × List (List Step))) (text : List Lexical) → length rest ≡ 0 → (links : List (Rel × Sums)) → links_text links ≡ text → length links ≡ length rest → text ≡ []
links_nil rest text z [] s c = sym s
links_nil rest text z (link ∷ links) s c = absurd (omega (arith, z, c))

link_some : Spells some_links [] → ⊥
link_some s = let e : some_links s.tree ≡ [] = s.spelled in absurd (cc)

stays : (all : List Lexical) (a b : ℕ) (P : List Lexical → Type 0) → (h : Reads all a b P) → h.text ≡ [] → a ≡ b
stays all a b P h e = omega (arith, text_length all a b P h, ap length e)

pub chain_none : (S : Type 0) (first : List (List Step)) (rest : List (Relation × List (List Step))) (all : List Lexical) (at mid next n : ℕ) → n ≡ length rest → n ≡ 0 → Reads all at mid (IsItem S sums_text sums_steps first) → Ends all (Spells sums_text) (Behind ends_sums) at mid
    → Reads all mid next (IsLinks S rest) → Ends all (Spells links_text) (Behind ends_links) mid next → Stops all (Spells chain_text) (Behind ends_links) at next
chain_none S first rest all at mid next n e z h f k g =
    let same : mid ≡ next = stays all mid next (IsLinks S rest) k (links_nil rest k.text (sym e ∙ z) k.is.links k.is.spelled k.is.counted) in
    let here : Ends all (Spells links_text) (Behind ends_links) mid mid = subst (λ (m : ℕ). Ends all (Spells links_text) (Behind ends_links) mid m) (sym same) g in
    subst (λ (m : ℕ). Stops all (Spells chain_text) (Behind ends_links) at m) same
    (leads_stop all (Spells chain_text) (Spells some_links) (Behind ends_links) (Behind ends_links) at mid mid (chain_mid S first all at mid (reads_within all at mid (IsItem S sums_text sums_steps first) h) h f) (λ rest b. b)
    (nothing_stops all (Spells some_links) (Spells links_text) (Behind ends_links) mid (some_links some_link) h.within here are_links link_some (a_spelling some_links some_link)))

-- ---- conditions

-- conditions up to the place leave further ones
pub conditions_to : List Lexical → ℕ → ℕ → Type 0
conditions_to all at mid = Leads all (SpellsList chain_text (key "and")) (Spells (more_text chain_text (key "and"))) (Behind ends_conditions) at mid

-- a chain is wanted
pub conditions_want : List Lexical → ℕ → ℕ → Type 0
conditions_want all at mid = Leads all (SpellsList chain_text (key "and")) (Items chain_text (key "and")) (Behind ends_conditions) at mid

pub conditions_start : (all : List Lexical) (at : ℕ) → at ≤ length all → conditions_want all at at
unfolding conditions_want
conditions_start all at within = list_start all chain_text (key "and") (Behind ends_conditions) at within

pub conditions_on : (S : Type 0) (v : chained.Chain) (all : List Lexical) (at mid next : ℕ) → conditions_want all at mid → Reads all mid next (IsItem S chain_text chain_of v) → Ends all (Spells chain_text) (Behind ends_links) mid next → conditions_to all at next
unfolding conditions_to conditions_want
conditions_on S v all at mid next h k e = list_item all (SpellsList chain_text (key "and")) chain_text (key "and") ends_conditions ends_links at mid next h conditions_are_links refl (item_spells S chain_text chain_of v all mid next k) e

pub conditions_and : (all : List Lexical) (at mid next : ℕ) → conditions_to all at mid → next ≡ mid + 1 → Next all mid (key "and") → conditions_want all at next
unfolding conditions_to conditions_want
conditions_and all at mid next h e n = list_next all (SpellsList chain_text (key "and")) chain_text (key "and") ends_conditions at mid next h refl e n

pub conditions_stop : (all : List Lexical) (at mid : ℕ) (s : Stop) → conditions_want all at mid → (mid ≤ length all → Halts (Stops all (Spells chain_text) (Behind ends_links) mid) s) → Halts (Stops all (SpellsList chain_text (key "and")) (Behind ends_conditions) at) s
unfolding conditions_want
conditions_stop all at mid s h k = list_stops all (SpellsList chain_text (key "and")) chain_text (key "and") ends_conditions ends_links at mid s h conditions_are_links refl (k h.within)

pub conditions_end : (all : List Lexical) (at mid : ℕ) → conditions_to all at mid → (Next all mid (key "and") → ⊥) → Ends all (SpellsList chain_text (key "and")) (Behind ends_conditions) at mid
unfolding conditions_to
conditions_end all at mid h none = list_done all (SpellsList chain_text (key "and")) chain_text (key "and") (Behind ends_conditions) at mid h none
