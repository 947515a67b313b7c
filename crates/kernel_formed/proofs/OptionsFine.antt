-- The options of an instruction in which nothing is wrong.
use Rattle.std.proofs.Common.{◌≡◌, ℕ, max, nat_le, Bool, true, false, cond, List, [], ◌∷◌, ap, refl, ◌∙◌, bytes_eq}
use Rattle.std.specs.Prelude.{Option, Some, None, if◌then◌else◌}
use Rattle.std.specs.List.{list_all, list_any}
use Rattle.std.proofs.lemmas.Bool.{and_from, and_parts}
use Rattle.kernel_grammar.specs.declared.item.InsnOption.{InsnOption}
use Rattle.kernel_grammar.specs.declared.item.InsnOption.TheVariants.{Id, Dep, Inames, If}
use Rattle.kernel_grammar.specs.declared.step.Infix.TheVariants.{And}
use Rattle.untyped.specs.Readings.{untyped_of}
use Rattle.untyped.proofs.Layers.{at-Infix}
use Rattle.kernel_names.specs.declared.declarations.Declarations.{Declarations}
use Rattle.kernel_names.specs.declared.limit.LineFaults.{LineFaults}
use Rattle.kernel_names.specs.Lines.{no_faults}
use Rattle.kernel_names.specs.Roles.{kernel_roles}
use Rattle.kernel_lines.specs.Places.{value_faults}
use Rattle.kernel_lines.specs.Stores.{first_unknown, unknown_in, ids_in, deps_of}
use Rattle.kernel_files.specs.declared.options.Predicate.{Predicate}
use Rattle.kernel_files.specs.declared.options.ReadOptions.{ReadOptions}
use Rattle.kernel_files.specs.Options.{no_options, unknown_only, predicate_of, conjunction, joined, together_faults, if_faults, with_option, options_behind, options_of}
use Rattle.kernel_formed.specs.Sound.{Meant, FitsRoles, term_sound, sound}
use Rattle.kernel_formed.specs.Written.{option_fits}
use Rattle.kernel_formed.proofs.SoundReadings.{said_sound}
use Rattle.kernel_formed.proofs.Joining.{all_both}
use Rattle.kernel_formed.proofs.PlacesFine.{fine_value}
use Rattle.kernel_formed.proofs.FineLines.{both_fine}

-- ---- one option

-- nothing is wrong with an option
abbrev IsFineOption : Declarations → List (List ℕ) → InsnOption → Type 0
IsFineOption D ids (Id name) = Unit {0}
IsFineOption D ids (Dep automatic names) = unknown_in D ids (Dep automatic names) ≡ None
IsFineOption D ids (Inames names) = unknown_in D ids (Inames names) ≡ None
IsFineOption D ids (If steps) = value_faults (untyped_of (kernel_roles D) steps).faults ≡ no_faults

option_fine : (D : Declarations) (ids : List (List ℕ)) (s : ReadOptions) (o : InsnOption) → (with_option D ids s o).faults ≡ no_faults → (s.faults ≡ no_faults) × IsFineOption D ids o
option_fine D ids s (Id name) h = (h, tt)
option_fine D ids s (Dep automatic names) h =
    let fine = both_fine s.faults (unknown_only (unknown_in D ids (Dep automatic names))) h in
    (fine.0, ap (λ (f : LineFaults). f.unknown) fine.1)
option_fine D ids s (Inames names) h =
    let fine = both_fine s.faults (unknown_only (unknown_in D ids (Inames names))) h in
    (fine.0, ap (λ (f : LineFaults). f.unknown) fine.1)
option_fine D ids s (If steps) h =
    let r = untyped_of (kernel_roles D) steps in
    let fine = both_fine s.faults (if_faults s.predicate r) h in
    (fine.0, (both_fine (value_faults r.faults) (together_faults s.predicate r) fine.1).0)

-- ---- all options

abbrev AreFineOptions : Declarations → List (List ℕ) → List InsnOption → Type 0
AreFineOptions D ids [] = Unit {0}
AreFineOptions D ids (o ∷ os) = IsFineOption D ids o × AreFineOptions D ids os

options_fine : (D : Declarations) (ids : List (List ℕ)) (s : ReadOptions) (os : List InsnOption) → (options_behind D ids s os).faults ≡ no_faults → (s.faults ≡ no_faults) × AreFineOptions D ids os
options_fine D ids s [] h = (h, tt)
options_fine D ids s (o ∷ os) h =
    let rest = options_fine D ids (with_option D ids s o) os h in
    let here = option_fine D ids s o rest.0 in
    (here.0, (here.1, rest.1))

-- ---- the predicate is sound

module _ (D : Declarations) (ids : List (List ℕ)) (m : Meant) (fits : FitsRoles (kernel_roles D) m) where
  abbrev pub IsSoundPredicate : Option Predicate → Type 0
  IsSoundPredicate None = Unit {0}
  IsSoundPredicate (Some p) = sound m p.tree ≡ true

  joined_case : (b : Bool) (p q : Predicate) → sound m p.tree ≡ true → sound m q.tree ≡ true → sound m (cond b p (conjunction p q)).tree ≡ true
  joined_case true p q h k = h
  joined_case false p q h k = at-Infix (term_sound m) And p.tree q.tree ∙ and_from (sound m p.tree) (sound m q.tree) h k

  joined_sound : (o : Option Predicate) (q : Predicate) → IsSoundPredicate o → sound m q.tree ≡ true → sound m (joined o q).tree ≡ true
  joined_sound None q h k = k
  joined_sound (Some p) q h k = joined_case (nat_le 64 (max p.depth q.depth)) p q h k

  with_sound : (s : ReadOptions) (o : InsnOption) → option_fits o ≡ true → IsFineOption D ids o → IsSoundPredicate s.predicate → IsSoundPredicate (with_option D ids s o).predicate
  with_sound s (Id name) whole fine h = h
  with_sound s (Dep automatic names) whole fine h = h
  with_sound s (Inames names) whole fine h = h
  with_sound s (If steps) whole fine h =
      let r = untyped_of (kernel_roles D) steps in
      joined_sound s.predicate (predicate_of r) h (said_sound m (kernel_roles D) fits steps whole (fine_value r.faults fine))

  behind_sound : (s : ReadOptions) (os : List InsnOption) → list_all option_fits os ≡ true → AreFineOptions D ids os → IsSoundPredicate s.predicate → IsSoundPredicate (options_behind D ids s os).predicate
  behind_sound s [] whole fine h = h
  behind_sound s (o ∷ os) whole fine h =
      behind_sound (with_option D ids s o) os ((and_parts (option_fits o) (list_all option_fits os) whole).1) fine.1 (with_sound s o ((and_parts (option_fits o) (list_all option_fits os) whole).0) fine.0 h)

  pub predicate_sound : (os : List InsnOption) → list_all option_fits os ≡ true → (options_of D ids os).faults ≡ no_faults → IsSoundPredicate (options_of D ids os).predicate
  predicate_sound os whole h = behind_sound no_options os whole (options_fine D ids no_options os h).1 tt

-- ---- dependences are ids

known_case : (p : List ℕ → Bool) (n : List ℕ) (ns : List (List ℕ)) (b : Bool) → p n ≡ b → (if b then first_unknown p ns else Some n) ≡ None → (p n ≡ true) × (first_unknown p ns ≡ None)
known_case p n ns true e h = (e, h)
known_case p n ns false e h = absurd (cc)

all_known : (p : List ℕ → Bool) (ns : List (List ℕ)) → first_unknown p ns ≡ None → list_all p ns ≡ true
all_known p [] h = refl
all_known p (n ∷ ns) h = let k = known_case p n ns (p n) refl h in and_from (p n) (list_all p ns) k.0 (all_known p ns k.1)

option_known : (D : Declarations) (ids : List (List ℕ)) (o : InsnOption) → IsFineOption D ids o → list_all (λ n. list_any (bytes_eq n) ids) (ids_in o) ≡ true
option_known D ids (Id name) h = refl
option_known D ids (Dep automatic names) h = all_known (λ n. list_any (bytes_eq n) ids) names h
option_known D ids (Inames names) h = refl
option_known D ids (If steps) h = refl

deps_among : (D : Declarations) (ids : List (List ℕ)) (os : List InsnOption) → AreFineOptions D ids os → list_all (λ n. list_any (bytes_eq n) ids) (deps_of os) ≡ true
deps_among D ids [] h = refl
deps_among D ids (o ∷ os) h = all_both (λ n. list_any (bytes_eq n) ids) (ids_in o) (deps_of os) (option_known D ids o h.0) (deps_among D ids os h.1)

pub deps_known : (D : Declarations) (ids : List (List ℕ)) (os : List InsnOption) → (options_of D ids os).faults ≡ no_faults → list_all (λ n. list_any (bytes_eq n) ids) (deps_of os) ≡ true
deps_known D ids os h = deps_among D ids os (options_fine D ids no_options os h).1
