-- Expressions in their places, where nothing is wrong with them.
use Rattle.std.proofs.Common.{◌≡◌, ℕ, Bool, true, false, ◌||◌, List, [], ◌∷◌, map, ap, refl, sym, subst}
use Rattle.std.specs.Prelude.{Option, Some, None, if◌then◌else◌}
use Rattle.std.specs.List.{list_all}
use Rattle.std.proofs.lemmas.List.{map-append}
use Rattle.affine_rows.specs.declared.quasi.Quasi.{Quasi}
use Rattle.expr_tree.specs.declared.row.QuasiRow.{QuasiRow}
use Rattle.expr_tree.specs.Scenes.{each_var}
use Rattle.std.proofs.lemmas.Bool.{and_from, and_parts}
use Rattle.kernel_grammar.specs.declared.step.Step.{Step}
use Rattle.kernel_grammar.specs.declared.item.Relation.{Relation}
use Rattle.kernel_grammar.specs.declared.item.Chain.{Chain}
use Rattle.untyped.specs.declared.faults.Faults.{Faults}
use Rattle.untyped.specs.declared.reading.Part.{Part}
use Rattle.untyped.specs.declared.reading.Part.TheVariants as part
use Rattle.untyped.specs.Readings.{Roles, is_index, untyped_of}
use Rattle.untyped_parts.specs.declared.rows.RowReading.{RowReading}
use Rattle.untyped_parts.specs.Rows.{row_of}
use Rattle.kernel_names.specs.declared.limit.Limit.TheVariants as limit
use Rattle.kernel_names.specs.declared.limit.LineFaults.{LineFaults}
use Rattle.kernel_names.specs.Lines.{no_faults}
use Rattle.kernel_lines.specs.Places.{limit_in, value_faults, index_faults, reading_faults, index_of, forms_of, forms_faults}
use Rattle.kernel_lines.specs.Rows.{rows_between, rows_in, is_over}
use Rattle.kernel_lines.specs.Conditions.{form_faults, link_of, links_of, chain_of, chains_of}
use Rattle.kernel_formed.specs.Shapes.{is_whole}
use Rattle.kernel_formed.specs.Sound.{Meant, FitsRoles, IsFine}
use Rattle.kernel_formed.specs.Written.{chain_fits}
use Rattle.kernel_formed.proofs.SoundReadings.{index_sound}
use Rattle.kernel_formed.proofs.FormSums.{row_passes}
use Rattle.kernel_formed.proofs.Joining.{all_both}
use Rattle.kernel_formed.proofs.FineLines.{both_fine}

-- ---- faults

-- no limit is passed
record IsWithin (number : Bool) (f : Faults) : Type 0 where
  pub wide : f.wide ≡ false
  pub small : number ≡ false
  pub depth : f.depth ≡ false
  pub form : f.form ≡ false

within_by : (w n d o : Bool) → (if w then Some limit.Wide else (if n then Some limit.Number else (if d then Some limit.Depth else (if o then Some limit.Form else None)))) ≡ None
    → (w ≡ false) × ((n ≡ false) × ((d ≡ false) × (o ≡ false)))
within_by true n d o h = absurd (cc)
within_by false true d o h = absurd (cc)
within_by false false true o h = absurd (cc)
within_by false false false true h = absurd (cc)
within_by false false false false h = (refl, (refl, (refl, refl)))

within : (number : Bool) (f : Faults) → limit_in number f ≡ None → IsWithin number f
within number f h = let all = within_by f.wide number f.depth f.form h in record { wide = all.0; small = all.1.0; depth = all.1.1.0; form = all.1.1.1 }

-- a value with nothing wrong
pub fine_value : (f : Faults) → value_faults f ≡ no_faults → IsFine f
fine_value f h =
    let w = within f.number f (ap (λ (l : LineFaults). l.limit) h) in
    record { wide = w.wide; number = w.small; depth = w.depth; form = w.form; unknown = ap (λ (l : LineFaults). l.unknown) h; shape = ap (λ (l : LineFaults). l.shape) h }

pub first_off : (a b : Bool) → (a || b) ≡ false → a ≡ false
first_off true b h = h
first_off false b h = refl

shape_case : (is : Bool) (shape : Option (List ℕ)) (word : List ℕ) → (if is then shape else Some word) ≡ None → (is ≡ true) × (shape ≡ None)
shape_case true shape word h = (refl, h)
shape_case false shape word h = absurd (cc)

-- an index expression with nothing wrong
fine_index : (word : List ℕ) (is : Bool) (f : Faults) → index_faults word is f ≡ no_faults → (is ≡ true) × IsFine f
fine_index word is f h =
    let w = within (f.number || f.large) f (ap (λ (l : LineFaults). l.limit) h) in
    let s = shape_case is f.shape word (ap (λ (l : LineFaults). l.shape) h) in
    (s.0, record { wide = w.wide; number = first_off f.number f.large w.small; depth = w.depth; form = w.form; unknown = ap (λ (l : LineFaults). l.unknown) h; shape = s.1 })

-- ---- index expressions

module _ (roles : Roles) (m : Meant) (fits : FitsRoles roles m) where
  index_passes : (steps : List Step) (p : Part) → is_whole steps ≡ true → IsFine (untyped_of roles steps).faults → (untyped_of roles steps).part ≡ p → is_index p ≡ true → each_var m.var (index_of p) ≡ true
  index_passes steps (part.Index form constant) whole fine is index = index_sound m roles fits steps whole fine form constant is
  index_passes steps (part.Tree tree) whole fine is index = absurd (cc)

  pub forms_pass : (word : List ℕ) (items : List (List Step)) → list_all is_whole items ≡ true → forms_faults roles word items ≡ no_faults → list_all (each_var m.var) (forms_of roles items) ≡ true
  forms_pass word [] whole h = refl
  forms_pass word (steps ∷ items) whole h =
      let r = untyped_of roles steps in
      let fine = both_fine (reading_faults word r) (forms_faults roles word items) h in
      let index = fine_index word (is_index r.part) r.faults fine.0 in
      and_from (each_var m.var (index_of r.part)) (list_all (each_var m.var) (forms_of roles items))
      (index_passes steps r.part ((and_parts (is_whole steps) (list_all is_whole items) whole).0) index.1 refl index.0)
      (forms_pass word items ((and_parts (is_whole steps) (list_all is_whole items) whole).1) fine.1)

  -- ---- conditions

  abbrev row_fits : QuasiRow → Bool
  row_fits r = each_var m.var r.form

  right_pass : (rel : Relation) (a : Quasi) (right : List Quasi) → each_var m.var a ≡ true → list_all (each_var m.var) right ≡ true → list_all row_fits (map (λ (r : RowReading). r.row) (map (row_of rel a) right)) ≡ true
  right_pass rel a [] h k = refl
  right_pass rel a (b ∷ bs) h k =
      and_from (row_fits (row_of rel a b).row) (list_all row_fits (map (λ (r : RowReading). r.row) (map (row_of rel a) bs))) (row_passes m.var rel a b h ((and_parts (each_var m.var b) (list_all (each_var m.var) bs) k).0))
      (right_pass rel a bs h ((and_parts (each_var m.var b) (list_all (each_var m.var) bs) k).1))

  between_pass : (rel : Relation) (left right : List Quasi) → list_all (each_var m.var) left ≡ true → list_all (each_var m.var) right ≡ true → list_all row_fits (rows_in (rows_between rel left right)) ≡ true
  between_pass rel [] right h k = refl
  between_pass rel (a ∷ rest) right h k =
      subst (λ (rs : List QuasiRow). list_all row_fits rs ≡ true) (sym (map-append (λ (r : RowReading). r.row) (map (row_of rel a) right) (rows_between rel rest right)))
      (all_both row_fits (map (λ (r : RowReading). r.row) (map (row_of rel a) right)) (rows_in (rows_between rel rest right)) (right_pass rel a right ((and_parts (each_var m.var a) (list_all (each_var m.var) rest) h).0) k)
      (between_pass rel rest right ((and_parts (each_var m.var a) (list_all (each_var m.var) rest) h).1) k))

  links_pass : (word : List ℕ) (left : List Quasi) (links : List (Relation × List (List Step))) → list_all (each_var m.var) left ≡ true → list_all (λ link. list_all is_whole link.1) links ≡ true
      → (links_of roles word left links).faults ≡ no_faults → list_all row_fits (links_of roles word left links).rows ≡ true
  links_pass word left [] h whole k = refl
  links_pass word left (link ∷ links) h whole k =
      let right = forms_of roles link.1 in
      let made = rows_between link.0 left right in
      let fine = both_fine (link_of roles word left link).faults (links_of roles word right links).faults k in
      let here = both_fine (forms_faults roles word link.1) (form_faults (is_over made)) fine.0 in
      let right_fits = forms_pass word link.1 ((and_parts (list_all is_whole link.1) (list_all (λ l. list_all is_whole l.1) links) whole).0) here.0 in
      all_both row_fits (rows_in made) (links_of roles word right links).rows (between_pass link.0 left right h right_fits)
      (links_pass word right links right_fits ((and_parts (list_all is_whole link.1) (list_all (λ l. list_all is_whole l.1) links) whole).1) fine.1)

  chain_passes : (word : List ℕ) (chain : Chain) → chain_fits chain ≡ true → (chain_of roles word chain).faults ≡ no_faults → list_all row_fits (chain_of roles word chain).rows ≡ true
  chain_passes word chain whole h =
      let fine = both_fine (forms_faults roles word chain.first) (links_of roles word (forms_of roles chain.first) chain.rest).faults h in
      links_pass word (forms_of roles chain.first) chain.rest (forms_pass word chain.first ((and_parts (list_all is_whole chain.first) (list_all (λ link. list_all is_whole link.1) chain.rest) whole).0) fine.0)
      ((and_parts (list_all is_whole chain.first) (list_all (λ link. list_all is_whole link.1) chain.rest) whole).1) fine.1

  pub chains_pass : (word : List ℕ) (chains : List Chain) → list_all chain_fits chains ≡ true → (chains_of roles word chains).faults ≡ no_faults → list_all row_fits (chains_of roles word chains).rows ≡ true
  chains_pass word [] whole h = refl
  chains_pass word (chain ∷ chains) whole h =
      let fine = both_fine (chain_of roles word chain).faults (chains_of roles word chains).faults h in
      all_both row_fits (chain_of roles word chain).rows (chains_of roles word chains).rows (chain_passes word chain ((and_parts (chain_fits chain) (list_all chain_fits chains) whole).0) fine.0)
      (chains_pass word chains ((and_parts (chain_fits chain) (list_all chain_fits chains) whole).1) fine.1)
