-- What a sound expression mentions and binds may be meant.
use Rattle.std.proofs.Common.{◌≡◌, ℕ, Bool, true, false, ◌&&◌, not, List, [], ◌∷◌, ◌++◌, length, refl, sym, ◌∙◌}
use Rattle.std.specs.Prelude.{nat_lt, if◌then◌else◌}
use Rattle.std.specs.List.{list_all, filter}
use Rattle.affine_rows.specs.declared.quasi.Quasi.{Quasi}
use Rattle.expr_tree.specs.Scenes.{is_among, each_var}
use Rattle.std.proofs.lemmas.Bool.{and_from, and_parts}
use Rattle.untyped.specs.declared.tree.Term.{map-Term}
use Rattle.untyped.specs.declared.tree.Term.TheOpen.{Term-F}
use Rattle.untyped.specs.declared.tree.Untyped.{Untyped}
use Rattle.untyped.proofs.Layers.{Linked, linked}
use Rattle.untyped_parts.specs.Mentions.{Listing, term_listed, vars_in, vars_in_all, without, mentions, bound}
use Rattle.kernel_formed.specs.Sound.{Meant, term_sound, sound}
use Rattle.kernel_formed.proofs.FormSums.{vars_test}
use Rattle.kernel_formed.proofs.Joining.{all_both}

abbrev pub mentioning : Listing
mentioning = record { index = vars_in; read = vars_in_all; call = λ rule arguments. vars_in_all arguments; fold = without }

abbrev pub binding : Listing
binding = record { index = λ form. []; read = λ place. []; call = λ rule arguments. []; fold = λ inames inner. inames ++ inner }

pub places_pass : (p : ℕ → Bool) (qs : List Quasi) → list_all (each_var p) qs ≡ true → list_all p (vars_in_all qs) ≡ true
places_pass p [] h = refl
places_pass p (q ∷ qs) h =
    all_both p (vars_in q) (vars_in_all qs) (sym (vars_test p q) ∙ ((and_parts (each_var p q) (list_all (each_var p) qs) h).0)) (places_pass p qs ((and_parts (each_var p q) (list_all (each_var p) qs) h).1))

fewer_case : (p : ℕ → Bool) (b : Bool) (v : ℕ) (vs : List ℕ) → p v ≡ true → list_all p vs ≡ true → list_all p (if b then v ∷ vs else vs) ≡ true
fewer_case p true v vs h k = and_from (p v) (list_all p vs) h k
fewer_case p false v vs h k = k

fewer : (p q : ℕ → Bool) (vs : List ℕ) → list_all p vs ≡ true → list_all p (filter q vs) ≡ true
fewer p q [] h = refl
fewer p q (v ∷ vs) h = fewer_case p (q v) v (filter q vs) ((and_parts (p v) (list_all p vs) h).0) (fewer p q vs ((and_parts (p v) (list_all p vs) h).1))

module _ (m : Meant) where
  record Named (s : Bool) (ms bs : List ℕ) : Type 0 where
    pub vars : s ≡ true → list_all m.var ms ≡ true
    pub inames : s ≡ true → list_all m.iname bs ≡ true

  abbrev Part : Type 0
  Part = Linked (term_sound m) (term_listed mentioning) (term_listed binding) Named

  two : (p q : Part) → Named (p.a && q.a) (p.b ++ q.b) (p.c ++ q.c)
  two p q = record {
    vars = λ h. all_both m.var p.b q.b (p.is.vars ((and_parts p.a q.a h).0)) (q.is.vars ((and_parts p.a q.a h).1));
    inames = λ h. all_both m.iname p.c q.c (p.is.inames ((and_parts p.a q.a h).0)) (q.is.inames ((and_parts p.a q.a h).1));
  }

  named_step : (y : Term-F Part Part)
      → Named (term_sound m (map-Term _ _ _ _ (λ p. p.a) (λ p. p.a) y)) (term_listed mentioning (map-Term _ _ _ _ (λ p. p.b) (λ p. p.b) y)) (term_listed binding (map-Term _ _ _ _ (λ p. p.c) (λ p. p.c) y))
  named_step (Term-F.Index form constant) = record { vars = λ h. sym (vars_test m.var form) ∙ h; inames = λ h. refl }
  named_step (Term-F.Literal n) = record { vars = λ h. refl; inames = λ h. refl }
  named_step (Term-F.Read cell place) = record { vars = λ h. places_pass m.var place ((and_parts (m.cell cell (length place)) (list_all (each_var m.var) place) h).1); inames = λ h. refl }
  named_step (Term-F.Use rule arguments) = record { vars = λ h. places_pass m.var arguments ((and_parts (m.rule rule) (list_all (each_var m.var) arguments) h).1); inames = λ h. refl }
  named_step (Term-F.Prefix o p) = p.is
  named_step (Term-F.Infix o p q) = two p q
  named_step (Term-F.ShiftLeft p by) = p.is
  named_step (Term-F.ShiftRight p by) = p.is
  named_step (Term-F.Cast kind p) = p.is
  named_step (Term-F.Choose t p q) =
      let rest = two p q in
      two t (record { a = p.a && q.a; b = p.b ++ q.b; c = p.c ++ q.c; is = rest })
  named_step (Term-F.Fold how inames p) = record {
    vars = λ h. fewer m.var (λ v. not (is_among inames v)) p.b (p.is.vars ((and_parts (list_all m.iname inames) p.a ((and_parts (nat_lt 0 (length inames)) (list_all m.iname inames && p.a) h).1)).1));
    inames = λ h.
        let rest = (and_parts (nat_lt 0 (length inames)) (list_all m.iname inames && p.a) h).1 in
        all_both m.iname inames p.c ((and_parts (list_all m.iname inames) p.a rest).0) (p.is.inames ((and_parts (list_all m.iname inames) p.a rest).1));
  }

  named : (e : Untyped) → Named (sound m e) (mentions e) (bound e)
  named = linked (term_sound m) (term_listed mentioning) (term_listed binding) Named named_step

  pub vars_pass_in : (e : Untyped) → sound m e ≡ true → list_all m.var (mentions e) ≡ true
  vars_pass_in e = (named e).vars

  pub inames_pass_in : (e : Untyped) → sound m e ≡ true → list_all m.iname (bound e) ≡ true
  inames_pass_in e = (named e).inames
