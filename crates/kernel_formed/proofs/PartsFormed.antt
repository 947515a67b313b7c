-- The rows, assumptions, arrays and rules of a file in which no line is refused.
use Rattle.std.proofs.Common.{◌≡◌, ℕ, Bool, true, not, nat_eq, nat_lt, List, [], ◌∷◌, ◌++◌, map, length, ap, refl, sym, subst, ◌∙◌, bytes_eq}
use Rattle.std.specs.Prelude.{codes}
use Rattle.std.specs.List.{list_all, AllByRecursion}
use Rattle.std.proofs.lemmas.List.{length-map}
use Rattle.expr_tree.specs.declared.row.QuasiRow.{QuasiRow}
use Rattle.expr_tree.specs.Scenes.{is_among, mentions_only}
use Rattle.quasi_forms.specs.Alike.{distinct}
use Rattle.std.proofs.lemmas.Bool.{and_from, and_parts}
use Rattle.kernel_grammar.specs.declared.file.Entry.{Entry}
use Rattle.kernel_grammar.specs.declared.item.Item.{Item}
use Rattle.kernel_grammar.specs.declared.item.Item.TheVariants as item
use Rattle.kernel_grammar.specs.declared.step.Step.{Step}
use Rattle.kernel_ir.specs.declared.kernel.Kernel.{Kernel}
use Rattle.kernel_ir.specs.declared.kernel.Array as array
use Rattle.kernel_ir.specs.declared.kernel.SubstRule.{SubstRule}
use Rattle.kernel_ir.specs.NameSpace.{is_identifier, all_differ, iname_vars}
use Rattle.kernel_ir.specs.Valid.{IsRule, in_rule}
use Rattle.untyped.specs.Readings.{tree_of, untyped_of}
use Rattle.untyped_parts.specs.Mentions.{bound}
use Rattle.kernel_names.specs.declared.declarations.Declarations.{Declarations}
use Rattle.kernel_names.specs.declared.said.Said.{Said}
use Rattle.kernel_names.specs.Said.{said_in, own_in}
use Rattle.kernel_names.specs.Roles.{kernel_roles, parameter_roles, number_of}
use Rattle.kernel_names.specs.Lines.{no_faults}
use Rattle.kernel_lines.specs.declared.lines.KernelParts.{KernelParts}
use Rattle.kernel_lines.specs.Conditions.{chains_of}
use Rattle.kernel_lines.specs.Places.{forms_of, forms_faults}
use Rattle.kernel_lines.specs.Parts.{array_of, size_faults, rule_of, roles_in_body}
use Rattle.kernel_lines.specs.Lines.{with_line, part_faults, parts_behind}
use Rattle.kernel_files.specs.declared.files.ReadLines.{ReadLines}
use Rattle.kernel_files.specs.Files.{with_item, entry_faults, with_entry, entries_behind}
use Rattle.kernel_formed.specs.NameLaws.{NamesAreThere, AreVariables}
use Rattle.kernel_formed.specs.Shapes.{is_whole}
use Rattle.kernel_formed.specs.Sound.{IsScoped}
use Rattle.kernel_formed.specs.Written.{steps_fit, is_written, AreWritten}
use Rattle.kernel_formed.proofs.AllowedTrees.{stands_in}
use Rattle.kernel_formed.proofs.SoundReadings.{said_sound}
use Rattle.kernel_formed.proofs.SoundNames.{vars_pass_in, inames_pass_in}
use Rattle.kernel_formed.proofs.Joining.{all_both, none_passes}
use Rattle.kernel_formed.specs.Meanings.{meant_in_insns, meant_over}
use Rattle.kernel_formed.proofs.Permitted.{over_permits, fits_in_insns, fits_over}
use Rattle.kernel_formed.proofs.PlacesFine.{fine_value, forms_pass, chains_pass}
use Rattle.kernel_formed.proofs.FineLines.{AreFine, both_fine}

-- ---- the lines give the same parts, instructions aside

parts_kept : (D : Declarations) (ids : List (List ℕ)) (k : ReadLines) (line : ℕ) (it : Item) → (with_item D ids k line it).parts ≡ k.parts
parts_kept D ids k line (item.Domain known inames conditions) = refl
parts_kept D ids k line (item.Assume conditions) = refl
parts_kept D ids k line (item.Array name kind shape stored) = refl
parts_kept D ids k line (item.Temp name kind shape) = refl
parts_kept D ids k line (item.Rule name params body) = refl
parts_kept D ids k line (item.Insn declared name place how value options) = refl

-- the parts of what lines say are the parts that they say
pub same_parts : (D : Declarations) (ids : List (List ℕ)) (k : ReadLines) (es : List Entry) → (entries_behind D ids k es).parts ≡ parts_behind D k.parts es
same_parts D ids k [] = refl
same_parts D ids k (e ∷ es) =
    same_parts D ids (with_entry D ids k e) es ∙ ap (λ (p : KernelParts). parts_behind D p es) (parts_kept D ids (record k { parts = with_line D k.parts e.line e.item }) e.line e.item)

-- what is wrong in the parts of a line, where it is no instruction
parts_fine : (D : Declarations) (ids : List (List ℕ)) (taken : List Bool) (k : ReadLines) (it : Item) → entry_faults D ids taken k it ≡ no_faults → part_faults D it ≡ no_faults
parts_fine D ids taken k (item.Domain known inames conditions) h = h
parts_fine D ids taken k (item.Assume conditions) h = h
parts_fine D ids taken k (item.Array name kind shape stored) h = h
parts_fine D ids taken k (item.Temp name kind shape) h = h
parts_fine D ids taken k (item.Rule name params body) h = h
parts_fine D ids taken k (item.Insn declared name place how value options) h = refl

-- no line has a fault in its parts
abbrev pub ArePartsFine : Declarations → List Entry → Type 0
ArePartsFine D [] = Unit {0}
ArePartsFine D (e ∷ es) = (part_faults D e.item ≡ no_faults) × ArePartsFine D es

pub all_parts_fine : (D : Declarations) (ids : List (List ℕ)) (taken : List Bool) (said : List Said) (k : ReadLines) (es : List Entry) → AreFine D ids taken said k es → ArePartsFine D es
all_parts_fine D ids taken said k [] h = tt
all_parts_fine D ids taken said k (e ∷ es) h = (parts_fine D ids taken k e.item h.1.0, all_parts_fine D ids taken (said ++ said_in e.item) (with_entry D ids k e) es h.1.1)

-- ---- the parts are formed

all_one : {X : Type 0} (p : X → Bool) (x : X) → p x ≡ true → list_all p (x ∷ []) ≡ true
all_one p x h = and_from (p x) true h refl

module _ (K : Kernel) (D : Declarations) (entries : List Entry) (names : K.names ≡ D.names) (there : NamesAreThere K D entries) where
  pub record PartsFormed (p : KernelParts) : Type 0 where
    pub rows : list_all (λ r. mentions_only (K.params ++ iname_vars K) r.form) p.rows ≡ true
    pub assumptions : list_all (λ r. mentions_only K.params r.form) p.assumptions ≡ true
    pub places : list_all (λ a. nat_lt 0 (length a.shape)) p.arrays ≡ true
    pub shapes : list_all (λ a. list_all (mentions_only K.params) a.shape) p.arrays ≡ true
    pub rules : AllByRecursion (IsRule K) p.rules

  rule_formed : (name : List ℕ) (params : List (List ℕ)) (body : List Step) → AreVariables D params → is_whole body ≡ true → part_faults D (item.Rule name params body) ≡ no_faults → IsRule K (rule_of D name params body)
  rule_formed name params body own whole fine =
      let roles = roles_in_body D params in
      let own_vars = map (number_of D) params in
      let scope = own_vars ++ K.params in
      let m = meant_over K own_vars in
      let meant = there.body params in
      let fits = fits_over K roles meant.cell meant.rule own_vars meant.parameter (there.body_alone (distinct bytes_eq params)) in
      let e = tree_of (untyped_of roles body).part in
      let is_sound = said_sound m roles fits body whole (fine_value (untyped_of roles body).faults fine) in
      let nothing = none_passes (bound e) (inames_pass_in m e is_sound) in
      let scoped : IsScoped scope e = record {
        mentions = vars_pass_in m e is_sound;
        differ = subst (λ (vs : List ℕ). all_differ nat_eq vs ≡ true) (sym nothing) refl;
        new = subst (λ (vs : List ℕ). list_all (λ v. not (is_among scope v)) vs ≡ true) (sym nothing) refl;
      } in
      record {
        params = subst (λ (ns : List (List ℕ)). list_all (λ v. nat_lt v (length ns)) (map (number_of D) params) ≡ true) (sym names) own.within;
        differ = own.differ;
        body = stands_in m (in_rule K) (over_permits K own_vars) e scope is_sound scoped;
      }

  all_more : (P : SubstRule → Type 0) (rs : List SubstRule) (r : SubstRule) → AllByRecursion P rs → P r → AllByRecursion P (rs ++ r ∷ [])
  all_more P [] r h k = (k, tt)
  all_more P (x ∷ xs) r h k = (h.0, all_more P xs r h.1 k)

  line_formed : (p : KernelParts) (line : ℕ) (it : Item) → AreVariables D (own_in it) → steps_fit it ≡ true → part_faults D it ≡ no_faults → PartsFormed p → PartsFormed (with_line D p line it)
  line_formed p line (item.Domain known inames conditions) own fits fine h =
      let made = (chains_of (kernel_roles D) (codes "domain") conditions).rows in
      record {
        rows = all_both (λ (r : QuasiRow). mentions_only (K.params ++ iname_vars K) r.form) p.rows made h.rows (chains_pass (kernel_roles D) (meant_in_insns K) (fits_in_insns K (kernel_roles D) there.kernel.cell there.kernel.rule there.kernel.parameter there.kernel.iname) (codes "domain") conditions fits fine);
        assumptions = h.assumptions;
        places = h.places;
        shapes = h.shapes;
        rules = h.rules;
      }
  line_formed p line (item.Assume conditions) own fits fine h =
      let made = (chains_of (parameter_roles D) (codes "assume") conditions).rows in
      let roles_fit = fits_over K (parameter_roles D) there.parameters.cell there.parameters.rule [] there.parameters.parameter there.parameters_alone in
      record {
        rows = h.rows;
        assumptions = all_both (λ (r : QuasiRow). mentions_only K.params r.form) p.assumptions made h.assumptions (chains_pass (parameter_roles D) (meant_over K []) roles_fit (codes "assume") conditions fits fine);
        places = h.places;
        shapes = h.shapes;
        rules = h.rules;
      }
  line_formed p line (item.Array name kind shape stored) own fits fine h =
      let a = array_of D name kind shape stored in
      let roles_fit = fits_over K (parameter_roles D) there.parameters.cell there.parameters.rule [] there.parameters.parameter there.parameters_alone in
      let of_shape = both_fine (forms_faults (parameter_roles D) (codes "shape") shape) (size_faults (forms_of (parameter_roles D) shape)) fine in
      let some : nat_lt 0 (length a.shape) ≡ true = ap (nat_lt 0) (length-map shape _) ∙ (and_parts (nat_lt 0 (length shape)) (list_all is_whole shape) fits).0 in
      let pass = forms_pass (parameter_roles D) (meant_over K []) roles_fit (codes "shape") shape ((and_parts (nat_lt 0 (length shape)) (list_all is_whole shape) fits).1) of_shape.0 in
      record {
        rows = h.rows;
        assumptions = h.assumptions;
        places = all_both (λ (x : array.Array). nat_lt 0 (length x.shape)) p.arrays (a ∷ []) h.places (all_one (λ (x : array.Array). nat_lt 0 (length x.shape)) a some);
        shapes = all_both (λ (x : array.Array). list_all (mentions_only K.params) x.shape) p.arrays (a ∷ []) h.shapes (all_one (λ (x : array.Array). list_all (mentions_only K.params) x.shape) a pass);
        rules = h.rules;
      }
  line_formed p line (item.Temp name kind shape) own fits fine h = record { rows = h.rows; assumptions = h.assumptions; places = h.places; shapes = h.shapes; rules = h.rules }
  line_formed p line (item.Rule name params body) own fits fine h =
      record {
        rows = h.rows;
        assumptions = h.assumptions;
        places = h.places;
        shapes = h.shapes;
        rules = all_more (IsRule K) p.rules (rule_of D name params body) h.rules (rule_formed name params body own fits fine);
      }
  line_formed p line (item.Insn declared name place how value options) own fits fine h = record { rows = h.rows; assumptions = h.assumptions; places = h.places; shapes = h.shapes; rules = h.rules }

  pub parts_formed : (p : KernelParts) (es : List Entry) → AllByRecursion (λ e. AreVariables D (own_in e.item)) es → AreWritten es → ArePartsFine D es → PartsFormed p → PartsFormed (parts_behind D p es)
  parts_formed p [] own fits fine h = h
  parts_formed p (e ∷ es) own fits fine h =
      let here = (and_parts (is_written e.item) (list_all (λ x. is_written x.item) es) fits).0 in
      let steps = (and_parts (list_all (λ s. is_identifier s.name) (said_in e.item)) (steps_fit e.item) here).1 in
      parts_formed (with_line D p e.line e.item) es own.1 ((and_parts (is_written e.item) (list_all (λ x. is_written x.item) es) fits).1) fine.1 (line_formed p e.line e.item own.0 steps fine.0 h)
