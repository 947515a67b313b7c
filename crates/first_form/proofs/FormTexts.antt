-- The lines one after the other, and where they stop.
use Rattle.std.specs.Prelude.{◌==◌}
use Rattle.std.proofs.lemmas.Bool.{true≢false, eqb-true}
use Rattle.std.proofs.Common.{◌≡◌, ◌≢◌, ℕ, zero, suc, false, length, ◌+◌, ◌<◌, ◌≤◌, Bool, true, List, [], ◌∷◌, ◌++◌, codes, sym, ap, ◌∙◌, refl, arith, subst, append_assoc}
use Rattle.std.proofs.lemmas.List.{append_cancel_left, append-nil, nil_from_length}
use Rattle.std.specs.List.{concat}
use Rattle.first_form.specs.declared.form.FirstForm.{FirstForm}
use Rattle.std.specs.Fmt.{decimal}
use Rattle.first_form.specs.Form.{domain_line, array_line, store_line, are_names, Begins, IsFile}
use Rattle.first_form.specs.Refused.{IsRefusedAt}
use Rattle.first_form.specs.Lines.{IsDomainLine, IsArrayLine, IsStoreLine}
use Rattle.first_form.proofs.NameLists.{front_names}
use Rattle.first_form.proofs.LineTexts.{DomainsSame, domain_same, array_same, store_close, store_text, store_first, store_second}

abbrev pub kernel_line : List ℕ
kernel_line = codes "kernel 1\n"

abbrev pub form_with : List ℕ → List ℕ → List ℕ → List ℕ → ℕ → FirstForm
form_with p i a o n = record { param = p; iname = i; input = a; output = o; factor = n }

-- the first two, three and four lines, and what follows
pub record Two (bytes p i rest : List ℕ) : Type 0 where
  pub after : List ℕ
  pub kernel : bytes ≡ kernel_line ++ after
  pub domain : IsDomainLine after p i rest

pub record Three (bytes p i a rest : List ℕ) : Type 0 where
  pub after : List ℕ
  pub two : Two bytes p i after
  pub input : IsArrayLine (codes "input") p (p ∷ i ∷ []) after a rest

pub record Four (bytes p i a o rest : List ℕ) : Type 0 where
  pub after : List ℕ
  pub three : Three bytes p i a after
  pub output : IsArrayLine (codes "output") p (p ∷ i ∷ a ∷ []) after o rest

abbrev input_line : List ℕ → List ℕ → List ℕ
input_line a p = array_line (codes "input") a p

abbrev output_line : List ℕ → List ℕ → List ℕ
output_line o p = array_line (codes "output") o p

two_made : (bytes p i rest : List ℕ) → bytes ≡ kernel_line ++ (domain_line p i ++ rest) → are_names (p ∷ i ∷ []) ≡ true → Two bytes p i rest
two_made bytes p i rest e h = record {
  after = domain_line p i ++ rest;
  kernel = e;
  domain = record {
    is = refl;
    names = h;
  };
}

three_made : (bytes p i a rest : List ℕ) → bytes ≡ kernel_line ++ (domain_line p i ++ (input_line a p ++ rest)) → are_names (p ∷ i ∷ a ∷ []) ≡ true → Three bytes p i a rest
three_made bytes p i a rest e h = record {
  after = input_line a p ++ rest;
  two = two_made bytes p i (input_line a p ++ rest) e (front_names (p ∷ i ∷ []) a h);
  input = record {
    is = refl;
    names = h;
  };
}

four_made : (bytes p i a o rest : List ℕ) → bytes ≡ kernel_line ++ (domain_line p i ++ (input_line a p ++ (output_line o p ++ rest))) → are_names (p ∷ i ∷ a ∷ o ∷ []) ≡ true → Four bytes p i a o rest
four_made bytes p i a o rest e h = record {
  after = output_line o p ++ rest;
  three = three_made bytes p i a (output_line o p ++ rest) e (front_names (p ∷ i ∷ a ∷ []) o h);
  output = record {
    is = refl;
    names = h;
  };
}

two_text : (bytes p i rest : List ℕ) → Two bytes p i rest → bytes ≡ kernel_line ++ (domain_line p i ++ rest)
two_text bytes p i rest h = h.kernel ∙ ap (λ (z : List ℕ). kernel_line ++ z) h.domain.is

three_text : (bytes p i a rest : List ℕ) → Three bytes p i a rest → bytes ≡ kernel_line ++ (domain_line p i ++ (input_line a p ++ rest))
three_text bytes p i a rest h = two_text bytes p i h.after h.two ∙ ap (λ (z : List ℕ). kernel_line ++ (domain_line p i ++ z)) h.input.is

four_text : (bytes p i a o rest : List ℕ) → Four bytes p i a o rest → bytes ≡ kernel_line ++ (domain_line p i ++ (input_line a p ++ (output_line o p ++ rest)))
four_text bytes p i a o rest h = three_text bytes p i a h.after h.three ∙ ap (λ (z : List ℕ). kernel_line ++ (domain_line p i ++ (input_line a p ++ z))) h.output.is

pub record ThreeSame (p i a rest x y z r : List ℕ) : Type 0 where
  pub params : p ≡ x
  pub inames : i ≡ y
  pub inputs : a ≡ z
  pub rests : rest ≡ r

two_same : (bytes p i rest x y r : List ℕ) → Two bytes p i rest → Two bytes x y r → DomainsSame p i rest x y r
two_same bytes p i rest x y r h k =
    let e : h.after ≡ k.after = append_cancel_left kernel_line h.after k.after (sym h.kernel ∙ k.kernel) in
    domain_same k.after p i rest x y r (subst (λ (z : List ℕ). IsDomainLine z p i rest) e h.domain) k.domain

three_same : (bytes p i a rest x y z r : List ℕ) → Three bytes p i a rest → Three bytes x y z r → ThreeSame p i a rest x y z r
three_same bytes p i a rest x y z r h k =
    let two = two_same bytes p i h.after x y k.after h.two k.two in
    let input : IsArrayLine (codes "input") x (p ∷ i ∷ []) k.after a rest =
    subst (λ (u : List ℕ). IsArrayLine (codes "input") x (p ∷ i ∷ []) u a rest) two.rests (subst (λ (u : List ℕ). IsArrayLine (codes "input") u (p ∷ i ∷ []) h.after a rest) two.params h.input) in
    let same = array_same (codes "input") x (p ∷ i ∷ []) (x ∷ y ∷ []) k.after a rest z r input k.input in
    record {
      params = two.params;
      inames = two.inames;
      inputs = same.names;
      rests = same.rests;
    }

pub record FourSame (p i a o rest x y z w r : List ℕ) : Type 0 where
  pub params : p ≡ x
  pub inames : i ≡ y
  pub inputs : a ≡ z
  pub outputs : o ≡ w
  pub rests : rest ≡ r

four_same : (bytes p i a o rest x y z w r : List ℕ) → Four bytes p i a o rest → Four bytes x y z w r → FourSame p i a o rest x y z w r
four_same bytes p i a o rest x y z w r h k =
    let three = three_same bytes p i a h.after x y z k.after h.three k.three in
    let output : IsArrayLine (codes "output") x (p ∷ i ∷ a ∷ []) k.after o rest =
    subst (λ (u : List ℕ). IsArrayLine (codes "output") x (p ∷ i ∷ a ∷ []) u o rest) three.rests (subst (λ (u : List ℕ). IsArrayLine (codes "output") u (p ∷ i ∷ a ∷ []) h.after o rest) three.params h.output) in
    let same = array_same (codes "output") x (p ∷ i ∷ a ∷ []) (x ∷ y ∷ z ∷ []) k.after o rest w r output k.output in
    record {
      params = three.params;
      inames = three.inames;
      inputs = three.inputs;
      outputs = same.names;
      rests = same.rests;
    }

text2 : (a b rest : List ℕ) → concat (a ∷ b ∷ []) ++ rest ≡ a ++ (b ++ rest)
text2 a b rest = simp (append_assoc, append-nil)

text3 : (a b c rest : List ℕ) → concat (a ∷ b ∷ c ∷ []) ++ rest ≡ a ++ (b ++ (c ++ rest))
text3 a b c rest = simp (append_assoc, append-nil)

text4 : (a b c d rest : List ℕ) → concat (a ∷ b ∷ c ∷ d ∷ []) ++ rest ≡ a ++ (b ++ (c ++ (d ++ rest)))
text4 a b c d rest = simp (append_assoc, append-nil)

text5 : (a b c d e rest : List ℕ) → concat (a ∷ b ∷ c ∷ d ∷ e ∷ []) ++ rest ≡ a ++ (b ++ (c ++ (d ++ (e ++ rest))))
text5 a b c d e rest = simp (append_assoc, append-nil)

pub refused_1 : (bytes : List ℕ) → ((rest : List ℕ) → bytes ≢ kernel_line ++ rest) → IsRefusedAt bytes 1 bytes
refused_1 bytes missing = record {
  before = 0;
  form = form_with [] [] [] [] 0;
  counted = refl;
  few = omega arith;
  fits = record {
    text = refl;
    names = refl;
    factor = λ e. absurd (omega arith);
  };
  differs = λ _ other after h. missing after h.text;
  further = λ e. absurd (omega arith);
}

pub refused_2 : (bytes rest : List ℕ) → bytes ≡ kernel_line ++ rest → ((p i r : List ℕ) → ¬ (IsDomainLine rest p i r)) → IsRefusedAt bytes 2 rest
refused_2 bytes rest e missing = record {
  before = 1;
  form = form_with [] [] [] [] 0;
  counted = refl;
  few = omega arith;
  fits = record {
    text = e;
    names = refl;
    factor = λ z. absurd (omega arith);
  };
  differs = λ _ other after h. missing other.param other.iname after (record {
    is = append_cancel_left kernel_line rest (domain_line other.param other.iname ++ after) (sym e ∙ h.text ∙ text2 kernel_line (domain_line other.param other.iname) after);
    names = h.names;
  });
  further = λ z. absurd (omega arith);
}

pub refused_3 : (bytes p i rest : List ℕ) → Two bytes p i rest → ((a r : List ℕ) → ¬ (IsArrayLine (codes "input") p (p ∷ i ∷ []) rest a r)) → IsRefusedAt bytes 3 rest
refused_3 bytes p i rest two missing = record {
  before = 2;
  form = form_with p i [] [] 0;
  counted = refl;
  few = omega arith;
  fits = record {
    text = two_text bytes p i rest two ∙ sym (text2 kernel_line (domain_line p i) rest);
    names = two.domain.names;
    factor = λ z. absurd (omega arith);
  };
  differs = λ _ other after h.
      let line = input_line other.input other.param in
      let e = h.text ∙ text3 kernel_line (domain_line other.param other.iname) line after in
      let k = two_same bytes p i rest other.param other.iname (line ++ after) two (two_made bytes other.param other.iname (line ++ after) e (front_names (other.param ∷ other.iname ∷ []) other.input h.names)) in
      let none = rw (k.params, k.inames, k.rests) at missing in
      none other.input after (record {
        is = refl;
        names = h.names;
      });
  further = λ z. absurd (omega arith);
}

pub refused_4 : (bytes p i a rest : List ℕ) → Three bytes p i a rest → ((o r : List ℕ) → ¬ (IsArrayLine (codes "output") p (p ∷ i ∷ a ∷ []) rest o r)) → IsRefusedAt bytes 4 rest
refused_4 bytes p i a rest three missing = record {
  before = 3;
  form = form_with p i a [] 0;
  counted = refl;
  few = omega arith;
  fits = record {
    text = three_text bytes p i a rest three ∙ sym (text3 kernel_line (domain_line p i) (input_line a p) rest);
    names = three.input.names;
    factor = λ z. absurd (omega arith);
  };
  differs = λ _ other after h.
      let line = output_line other.output other.param in
      let e = h.text ∙ text4 kernel_line (domain_line other.param other.iname) (input_line other.input other.param) line after in
      let k = three_same bytes p i a rest other.param other.iname other.input (line ++ after) three (three_made bytes other.param other.iname other.input (line ++ after) e (front_names (other.param ∷ other.iname ∷ other.input ∷ []) other.output h.names)) in
      let none = rw (k.params, k.inames, k.inputs, k.rests) at missing in
      none other.output after (record {
        is = refl;
        names = h.names;
      });
  further = λ z. absurd (omega arith);
}

pub refused_5 : (bytes p i a o rest : List ℕ) → Four bytes p i a o rest → ((n : ℕ) (r : List ℕ) → ¬ (IsStoreLine o a i rest n r)) → IsRefusedAt bytes 5 rest
refused_5 bytes p i a o rest four missing = record {
  before = 4;
  form = form_with p i a o 0;
  counted = refl;
  few = omega arith;
  fits = record {
    text = four_text bytes p i a o rest four ∙ sym (text4 kernel_line (domain_line p i) (input_line a p) (output_line o p) rest);
    names = four.output.names;
    factor = λ z. absurd (omega arith);
  };
  differs = λ _ other after h.
      let line = store_line other.output other.input other.iname other.factor in
      let e = h.text ∙ text5 kernel_line (domain_line other.param other.iname) (input_line other.input other.param) (output_line other.output other.param) line after in
      let k = four_same bytes p i a o rest other.param other.iname other.input other.output (line ++ after) four (four_made bytes other.param other.iname other.input other.output (line ++ after) e h.names) in
      let none = rw (k.inames, k.inputs, k.outputs, k.rests) at missing in
      none other.factor after (record {
        is = refl;
        small = h.factor refl;
      });
  further = λ z. absurd (omega arith);
}

pub five_made : (bytes p i a o after : List ℕ) (n : ℕ) (rest : List ℕ) → Four bytes p i a o after → IsStoreLine o a i after n rest → Begins 5 (form_with p i a o n) bytes rest
five_made bytes p i a o after n rest four h = record {
  text = four_text bytes p i a o after four ∙ ap (λ (z : List ℕ). kernel_line ++ (domain_line p i ++ (input_line a p ++ (output_line o p ++ z)))) h.is ∙ sym (text5 kernel_line (domain_line p i) (input_line a p) (output_line o p) (store_line o a i n) rest);
  names = four.output.names;
  factor = λ _. h.small;
}

pub refused_6 : (bytes : List ℕ) (form : FirstForm) (rest : List ℕ) → Begins 5 form bytes rest → (rest ≡ [] → ⊥) → IsRefusedAt bytes 6 rest
refused_6 bytes form rest h more = record {
  before = 5;
  form = form;
  counted = refl;
  few = omega arith;
  fits = h;
  differs = λ low. absurd (omega arith);
  further = λ _. more;
}

pub two_of : (bytes a p i b : List ℕ) → bytes ≡ kernel_line ++ a → IsDomainLine a p i b → Two bytes p i b
two_of bytes a p i b k d = record {
  after = a;
  kernel = k;
  domain = d;
}

pub three_of : (bytes a p i b x c : List ℕ) → bytes ≡ kernel_line ++ a → IsDomainLine a p i b → IsArrayLine (codes "input") p (p ∷ i ∷ []) b x c → Three bytes p i x c
three_of bytes a p i b x c k d e = record {
  after = b;
  two = two_of bytes a p i b k d;
  input = e;
}

pub four_of : (bytes a p i b x c o d : List ℕ) → bytes ≡ kernel_line ++ a → IsDomainLine a p i b → IsArrayLine (codes "input") p (p ∷ i ∷ []) b x c → IsArrayLine (codes "output") p (p ∷ i ∷ x ∷ []) c o d → Four bytes p i x o d
four_of bytes a p i b x c o d k l e f = record {
  after = c;
  three = three_of bytes a p i b x c k l e;
  output = f;
}

pub not_empty : (rest : List ℕ) → false ≡ (length rest == 0) → rest ≡ [] → ⊥
not_empty rest h e = true≢false (sym (h ∙ ap (λ (z : List ℕ). length z == 0) e))

pub at_end : (bytes : List ℕ) (form : FirstForm) (rest : List ℕ) → Begins 5 form bytes rest → true ≡ (length rest == 0) → Begins 5 form bytes []
at_end bytes form rest h e = subst (λ (z : List ℕ). Begins 5 form bytes z) (nil_from_length rest (eqb-true (length rest) 0 (sym e))) h

-- Two fronts of five lines of the same bytes end at the same place.
five_four : (bytes : List ℕ) (f : FirstForm) (rest : List ℕ) → Begins 5 f bytes rest → Four bytes f.param f.iname f.input f.output (store_line f.output f.input f.iname f.factor ++ rest)
five_four bytes f rest h =
    four_made bytes f.param f.iname f.input f.output (store_line f.output f.input f.iname f.factor ++ rest)
    (h.text ∙ text5 kernel_line (domain_line f.param f.iname) (input_line f.input f.param) (output_line f.output f.param) (store_line f.output f.input f.iname f.factor) rest) h.names

stores_same : (o a i bytes : List ℕ) (n m : ℕ) (rest after : List ℕ) → IsStoreLine o a i bytes n rest → IsStoreLine o a i bytes m after → rest ≡ after
stores_same o a i bytes n m rest after h k =
    let open_line = store_text o a i m after in
    append_cancel_left (store_close a i) rest after
    (store_second o a i bytes n rest (decimal m ++ (store_close a i ++ after)) m (store_close a i ++ after) h (k.is ∙ open_line)
    (store_first o a i bytes m after (decimal m ++ (store_close a i ++ after)) k (k.is ∙ open_line)))

five_same : (bytes : List ℕ) (f g : FirstForm) (rest after : List ℕ) → Begins 5 f bytes rest → Begins 5 g bytes after → rest ≡ after
five_same bytes f g rest after h k =
    let line = store_line f.output f.input f.iname f.factor in
    let s = four_same bytes f.param f.iname f.input f.output (line ++ rest) g.param g.iname g.input g.output (store_line g.output g.input g.iname g.factor ++ after) (five_four bytes f rest h) (five_four bytes g after k) in
    let own : IsStoreLine f.output f.input f.iname (line ++ rest) f.factor rest = record { is = refl; small = h.factor refl } in
    let moved : IsStoreLine g.output g.input g.iname (line ++ rest) f.factor rest =
    subst (λ (o : List ℕ). IsStoreLine o g.input g.iname (line ++ rest) f.factor rest) s.outputs
    (subst (λ (a : List ℕ). IsStoreLine f.output a g.iname (line ++ rest) f.factor rest) s.inputs
    (subst (λ (i : List ℕ). IsStoreLine f.output f.input i (line ++ rest) f.factor rest) s.inames own)) in
    stores_same g.output g.input g.iname (line ++ rest) f.factor g.factor rest after moved (record { is = s.rests; small = k.factor refl })

-- a file of the form begins with fewer of its lines
text1 : (a rest : List ℕ) → concat (a ∷ []) ++ rest ≡ a ++ rest
text1 a rest = simp append-nil

whole_text : (bytes : List ℕ) (f : FirstForm) → IsFile bytes f
    → bytes ≡ kernel_line ++ (domain_line f.param f.iname ++ (input_line f.input f.param ++ (output_line f.output f.param ++ (store_line f.output f.input f.iname f.factor ++ []))))
whole_text bytes f h = h.text ∙ text5 kernel_line (domain_line f.param f.iname) (input_line f.input f.param) (output_line f.output f.param) (store_line f.output f.input f.iname f.factor) []

by_count : (count : ℕ) (form : FirstForm) (bytes rest : List ℕ) → Begins count form bytes rest
    → (count < 5 → (other : FirstForm) (after : List ℕ) → Begins (count + 1) other bytes after → ⊥) → (count ≡ 5 → rest ≡ [] → ⊥) → count ≤ 5
    → (f : FirstForm) → IsFile bytes f → ⊥
by_count zero form bytes rest fits differs further few f h =
    differs (omega arith) f _ (record { text = whole_text bytes f h ∙ sym (text1 kernel_line _); names = refl; factor = λ e. absurd (omega (arith, e)) })
by_count (suc zero) form bytes rest fits differs further few f h =
    differs (omega arith) f _ (record {
      text = whole_text bytes f h ∙ sym (text2 kernel_line (domain_line f.param f.iname) _);
      names = front_names (f.param ∷ f.iname ∷ []) f.input (front_names (f.param ∷ f.iname ∷ f.input ∷ []) f.output h.names);
      factor = λ e. absurd (omega (arith, e));
    })
by_count (suc (suc zero)) form bytes rest fits differs further few f h =
    differs (omega arith) f _ (record {
      text = whole_text bytes f h ∙ sym (text3 kernel_line (domain_line f.param f.iname) (input_line f.input f.param) _);
      names = front_names (f.param ∷ f.iname ∷ f.input ∷ []) f.output h.names;
      factor = λ e. absurd (omega (arith, e));
    })
by_count (suc (suc (suc zero))) form bytes rest fits differs further few f h =
    differs (omega arith) f _ (record {
      text = whole_text bytes f h ∙ sym (text4 kernel_line (domain_line f.param f.iname) (input_line f.input f.param) (output_line f.output f.param) _);
      names = h.names;
      factor = λ e. absurd (omega (arith, e));
    })
by_count (suc (suc (suc (suc zero)))) form bytes rest fits differs further few f h = differs (omega arith) f [] h
by_count (suc (suc (suc (suc (suc zero))))) form bytes rest fits differs further few f h = further refl (five_same bytes form f rest [] fits h)
by_count (suc (suc (suc (suc (suc (suc n)))))) form bytes rest fits differs further few f h = omega (arith, few)

-- A refused file is none of the form.
pub refused_is_no_file : (bytes : List ℕ) (line : ℕ) (rest : List ℕ) → IsRefusedAt bytes line rest → (f : FirstForm) → IsFile bytes f → ⊥
refused_is_no_file bytes line rest r f h = by_count r.before r.form bytes rest r.fits r.differs r.further r.few f h
