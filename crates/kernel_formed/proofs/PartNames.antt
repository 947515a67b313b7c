-- The arrays, temporaries and rules of the parts that lines say have the names that the lines say.
use Rattle.std.proofs.Common.{◌≡◌, ℕ, Bool, false, cond, List, [], ◌∷◌, ◌++◌, map, length, Some, None, refl, sym, ap, ap₂, ◌∙◌, append_assoc, append-nil}
use Rattle.std.specs.List.{filter}
use Rattle.std.proofs.lemmas.List.{length-map, map-append}
use Rattle.std.proofs.lemmas.List.Elements.{filter-append}
use Rattle.kernel_ir.specs.declared.kernel.Kernel.{Kernel}
use Rattle.kernel_grammar.specs.declared.file.Entry.{Entry}
use Rattle.kernel_grammar.specs.declared.item.Declared.TheVariants.{Not, Inferred, Of}
use Rattle.kernel_grammar.specs.declared.item.Item.{Item}
use Rattle.kernel_grammar.specs.declared.item.Item.TheVariants as item
use Rattle.kernel_names.specs.declared.said.Sort.{Sort}
use Rattle.kernel_names.specs.declared.said.Sort.TheVariants as sort
use Rattle.kernel_names.specs.declared.said.Said.{Said}
use Rattle.kernel_names.specs.declared.declarations.Declarations.{Declarations}
use Rattle.kernel_names.specs.Said.{said_as, said_in, said_by}
use Rattle.kernel_names.specs.Roles.{is_array, is_temp, is_rule, declarations_of}
use Rattle.kernel_lines.specs.declared.lines.KernelParts.{KernelParts}
use Rattle.kernel_lines.specs.Parts.{array_of, temp_of, rule_of}
use Rattle.kernel_lines.specs.Lines.{no_parts, with_line, parts_behind}
use Rattle.kernel_formed.specs.NameLaws.{IsOfLines}
use Rattle.kernel_formed.proofs.SaidParts.{array_said, temp_said, rule_said, HasNamesOf}

abbrev pub kept : (Sort → Bool) → List Said → List Said
kept is said = filter (λ s. is s.sort) said

none_as : (is : Sort → Bool) (s : Sort) (names : List (List ℕ)) → is s ≡ false → kept is (said_as s names) ≡ []
none_as is s [] other = refl
none_as is s (n ∷ names) other =
    ap (λ (b : Bool). cond b (record { sort = s; name = n } ∷ kept is (said_as s names)) (kept is (said_as s names))) other ∙ none_as is s names other

none_in_domain : (is : Sort → Bool) (known inames : List (List ℕ)) → is sort.Parameter ≡ false → is sort.Iname ≡ false
    → kept is (said_as sort.Parameter known ++ said_as sort.Iname inames) ≡ []
none_in_domain is known inames p i =
    filter-append (λ s. is s.sort) (said_as sort.Parameter known) (said_as sort.Iname inames)
    ∙ ap₂ (λ (xs ys : List Said). xs ++ ys) (none_as is sort.Parameter known p) (none_as is sort.Iname inames i)

-- one list of the parts, whose elements are said as these sorts
module _ {A : Type 0} (D : Declarations) (is : Sort → Bool) (part : KernelParts → List A) (said : A → Said)
    (step : (p : KernelParts) (line : ℕ) (i : Item) → map said (part (with_line D p line i)) ≡ map said (part p) ++ kept is (said_in i)) where
  pub parts_are : (p : KernelParts) (entries : List Entry) → map said (part (parts_behind D p entries)) ≡ map said (part p) ++ kept is (said_by entries)
  parts_are p [] = sym (append-nil (map said (part p)))
  parts_are p (e ∷ entries) =
      parts_are (with_line D p e.line e.item) entries
      ∙ (ap (λ (xs : List Said). xs ++ kept is (said_by entries)) (step p e.line e.item)
      ∙ (append_assoc (map said (part p)) (kept is (said_in e.item)) (kept is (said_by entries))
      ∙ ap (λ (xs : List Said). map said (part p) ++ xs) (sym (filter-append (λ s. is s.sort) (said_in e.item) (said_by entries)))))

-- nothing more, or one more
nothing : {A : Type 0} (said : A → Said) (xs : List A) (more : List Said) → more ≡ [] → map said xs ≡ map said xs ++ more
nothing said xs more none = sym (append-nil (map said xs)) ∙ ap (λ (ys : List Said). map said xs ++ ys) (sym none)

one : {A : Type 0} (said : A → Said) (xs : List A) (a : A) (s : Said) → said a ≡ s → map said (xs ++ a ∷ []) ≡ map said xs ++ s ∷ []
one said xs a s same = map-append said xs (a ∷ []) ∙ ap (λ (x : Said). map said xs ++ x ∷ []) same

array_as : (D : Declarations) (p : KernelParts) (line : ℕ) (i : Item)
    → map array_said (with_line D p line i).arrays ≡ map array_said p.arrays ++ kept is_array (said_in i)
array_as D p line (item.Domain known inames conditions) = nothing array_said p.arrays _ (none_in_domain is_array known inames refl refl)
array_as D p line (item.Assume conditions) = nothing array_said p.arrays [] refl
array_as D p line (item.Array name kind shape stored) =
    one array_said p.arrays (array_of D name kind shape stored) (record { sort = sort.Array (length shape) stored; name = name })
    (ap (λ (n : ℕ). record { sort = sort.Array n stored; name = name }) (length-map shape _))
array_as D p line (item.Temp name kind shape) = nothing array_said p.arrays [] refl
array_as D p line (item.Rule name params body) = nothing array_said p.arrays _ (none_as is_array sort.Own params refl)
array_as D p line (item.Insn Not name place stored value options) = nothing array_said p.arrays [] refl
array_as D p line (item.Insn Inferred name place stored value options) = nothing array_said p.arrays [] refl
array_as D p line (item.Insn (Of kind) name place stored value options) = nothing array_said p.arrays [] refl

temp_as : (D : Declarations) (p : KernelParts) (line : ℕ) (i : Item)
    → map temp_said (with_line D p line i).temps ≡ map temp_said p.temps ++ kept is_temp (said_in i)
temp_as D p line (item.Domain known inames conditions) = nothing temp_said p.temps _ (none_in_domain is_temp known inames refl refl)
temp_as D p line (item.Assume conditions) = nothing temp_said p.temps [] refl
temp_as D p line (item.Array name kind shape stored) = nothing temp_said p.temps [] refl
temp_as D p line (item.Temp name kind shape) =
    one temp_said p.temps (temp_of name (Some kind) shape) (record { sort = sort.Temp (length shape); name = name })
    (ap (λ (n : ℕ). record { sort = sort.Temp n; name = name }) (length-map shape _))
temp_as D p line (item.Rule name params body) = nothing temp_said p.temps _ (none_as is_temp sort.Own params refl)
temp_as D p line (item.Insn Not name place stored value options) = ap (map temp_said) (append-nil p.temps) ∙ nothing temp_said p.temps [] refl
temp_as D p line (item.Insn Inferred name place stored value options) =
    one temp_said p.temps (temp_of name None []) (record { sort = sort.Temp 0; name = name }) refl
temp_as D p line (item.Insn (Of kind) name place stored value options) =
    one temp_said p.temps (temp_of name (Some kind) []) (record { sort = sort.Temp 0; name = name }) refl

rule_as : (D : Declarations) (p : KernelParts) (line : ℕ) (i : Item)
    → map rule_said (with_line D p line i).rules ≡ map rule_said p.rules ++ kept is_rule (said_in i)
rule_as D p line (item.Domain known inames conditions) = nothing rule_said p.rules _ (none_in_domain is_rule known inames refl refl)
rule_as D p line (item.Assume conditions) = nothing rule_said p.rules [] refl
rule_as D p line (item.Array name kind shape stored) = nothing rule_said p.rules [] refl
rule_as D p line (item.Temp name kind shape) = nothing rule_said p.rules [] refl
rule_as D p line (item.Rule name params body) =
    one rule_said p.rules (rule_of D name params body) (record { sort = sort.Rule; name = name }) refl
    ∙ ap (λ (xs : List Said). map rule_said p.rules ++ (record { sort = sort.Rule; name = name } ∷ xs)) (sym (none_as is_rule sort.Own params refl))
rule_as D p line (item.Insn Not name place stored value options) = nothing rule_said p.rules [] refl
rule_as D p line (item.Insn Inferred name place stored value options) = nothing rule_said p.rules [] refl
rule_as D p line (item.Insn (Of kind) name place stored value options) = nothing rule_said p.rules [] refl

-- A kernel of these lines has their names.
pub names_of_parts : (K : Kernel) (entries : List Entry) → IsOfLines K entries → HasNamesOf K entries
names_of_parts K entries h =
    let D = declarations_of entries in
    record {
      names = h.names;
      params = h.params;
      inames = h.inames;
      arrays = ap (map array_said) h.arrays ∙ parts_are D is_array (λ p. p.arrays) array_said (array_as D) no_parts entries;
      temps = ap (map temp_said) h.temps ∙ parts_are D is_temp (λ p. p.temps) temp_said (temp_as D) no_parts entries;
      rules = ap (map rule_said) h.rules ∙ parts_are D is_rule (λ p. p.rules) rule_said (rule_as D) no_parts entries;
    }
