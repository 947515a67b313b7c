-- What stands in a line is fixed by the bytes.
use Rattle.std.proofs.Common.{◌≡◌, ℕ, ◌<◌, ◌≤◌, ◌^◌, Bool, true, false, not, ◌&&◌, ◌||◌, List, [], ◌∷◌, ◌++◌, codes, sym, ap, ◌∙◌, refl, arith, subst, append_assoc}
use Rattle.std.proofs.lemmas.List.{append_cancel_left}
use Rattle.std.proofs.lemmas.Fmt.{decimal_injective}
use Rattle.std.specs.Char.{is_ascii_digit}
use Rattle.std.specs.Fmt.{decimal}
use Rattle.std.specs.Str.{bytes_eq}
use Rattle.first_form.specs.Names.{is_name}
use Rattle.first_form.specs.Form.{domain_line, array_line, store_line, are_names}
use Rattle.first_form.specs.Scans.{IsNameAfter, IsFactorAt}
use Rattle.first_form.specs.Lines.{IsDomainLine, IsArrayLine, IsStoreLine}
use Rattle.first_form.proofs.Fronts.{Same, name_same, run_same}
use Rattle.first_form.proofs.Factors.{factor_run}
use Rattle.first_form.proofs.NameLists.{pair_parts, pair_made, last_name}

-- the end of a domain line, and the line from its second name on
abbrev domain_close : List ℕ → List ℕ → List ℕ
domain_close param iname = codes "] : 0 <= " ++ (iname ++ (codes " < " ++ (param ++ codes " }\n")))

abbrev domain_mid : List ℕ → List ℕ → List ℕ → List ℕ
domain_mid param iname rest = codes "] -> { [" ++ (iname ++ (domain_close param iname ++ rest))

domain_text : (param iname rest : List ℕ) → domain_line param iname ++ rest ≡ codes "domain [" ++ (param ++ domain_mid param iname rest)
domain_text param iname rest = simp append_assoc

pub domain_first : (bytes param iname rest : List ℕ) → IsDomainLine bytes param iname rest → IsNameAfter (codes "domain [") bytes param (domain_mid param iname rest)
domain_first bytes param iname rest h = record {
  is = h.is ∙ domain_text param iname rest;
  named = (pair_parts param iname h.names).0;
  ended = refl;
}

pub domain_second : (bytes param iname rest p q : List ℕ) → IsDomainLine bytes param iname rest → IsNameAfter (codes "domain [") bytes p q → (param ≡ p) × IsNameAfter (codes "] -> { [") q iname (domain_close param iname ++ rest)
domain_second bytes param iname rest p q h k =
    let same = name_same (codes "domain [") bytes param (domain_mid param iname rest) p q (domain_first bytes param iname rest h) k in (
      same.names,
      record {
        is = sym same.rests;
        named = (pair_parts param iname h.names).1;
        ended = refl;
      },
    )

pub record DomainSame (param iname rest p i q : List ℕ) : Type 0 where
  pub params : param ≡ p
  pub inames : iname ≡ i
  pub rests : q ≡ domain_close p i ++ rest

pub domain_third : (bytes param iname rest p q i r : List ℕ) → IsDomainLine bytes param iname rest → IsNameAfter (codes "domain [") bytes p q → IsNameAfter (codes "] -> { [") q i r → DomainSame param iname rest p i r
domain_third bytes param iname rest p q i r h k l =
    let second = domain_second bytes param iname rest p q h k in
    let same = name_same (codes "] -> { [") q iname (domain_close param iname ++ rest) i r second.1 l in
    record {
      params = second.0;
      inames = same.names;
      rests = sym same.rests ∙ ap (λ (z : List ℕ). domain_close z iname ++ rest) second.0 ∙ ap (λ (z : List ℕ). domain_close p z ++ rest) same.names;
    }

pub domain_made : (bytes p q i r rest : List ℕ) → IsNameAfter (codes "domain [") bytes p q → IsNameAfter (codes "] -> { [") q i r → r ≡ domain_close p i ++ rest → (bytes_eq p i || false) ≡ false → IsDomainLine bytes p i rest
domain_made bytes p q i r rest h k e l = record {
  is = h.is ∙ ap (λ (z : List ℕ). codes "domain [" ++ (p ++ z)) (k.is ∙ ap (λ (z : List ℕ). codes "] -> { [" ++ (i ++ z)) e) ∙ sym (domain_text p i rest);
  names = pair_made p i h.named k.named l;
}

abbrev array_close : List ℕ → List ℕ
array_close param = codes ": int32[" ++ (param ++ codes "]\n")

array_text : (role name param rest : List ℕ) → array_line role name param ++ rest ≡ (role ++ codes " ") ++ (name ++ (array_close param ++ rest))
array_text role name param rest = simp append_assoc

pub array_first : (role param : List ℕ) (declared : List (List ℕ)) (bytes name rest : List ℕ) → IsArrayLine role param declared bytes name rest → IsNameAfter (role ++ codes " ") bytes name (array_close param ++ rest)
array_first role param declared bytes name rest h = record {
  is = h.is ∙ array_text role name param rest;
  named = last_name declared name h.names;
  ended = refl;
}

pub array_second : (role param : List ℕ) (declared : List (List ℕ)) (bytes name rest n q : List ℕ) → IsArrayLine role param declared bytes name rest → IsNameAfter (role ++ codes " ") bytes n q → Same name (array_close param ++ rest) n q
array_second role param declared bytes name rest n q h k =
    name_same (role ++ codes " ") bytes name (array_close param ++ rest) n q (array_first role param declared bytes name rest h) k

pub array_made : (role param bytes n q rest : List ℕ) → IsNameAfter (role ++ codes " ") bytes n q → q ≡ array_close param ++ rest → bytes ≡ array_line role n param ++ rest
array_made role param bytes n q rest h e = h.is ∙ ap (λ (z : List ℕ). (role ++ codes " ") ++ (n ++ z)) e ∙ sym (array_text role n param rest)

abbrev store_open : List ℕ → List ℕ → List ℕ
store_open output iname = output ++ (codes "[" ++ (iname ++ codes "] = "))

abbrev pub store_close : List ℕ → List ℕ → List ℕ
store_close input iname = codes "*" ++ (input ++ (codes "[" ++ (iname ++ codes "]\n")))

pub store_text : (output input iname : List ℕ) (factor : ℕ) (rest : List ℕ) → store_line output input iname factor ++ rest ≡ store_open output iname ++ (decimal factor ++ (store_close input iname ++ rest))
store_text output input iname factor rest = simp append_assoc

pub store_first : (output input iname bytes : List ℕ) (factor : ℕ) (rest q : List ℕ) → IsStoreLine output input iname bytes factor rest → bytes ≡ store_open output iname ++ q → IsFactorAt q factor (store_close input iname ++ rest)
store_first output input iname bytes factor rest q h e = record {
  is = append_cancel_left (store_open output iname) q (decimal factor ++ (store_close input iname ++ rest)) (sym e ∙ h.is ∙ store_text output input iname factor rest);
  small = h.small;
  ended = refl;
}

pub store_second : (output input iname bytes : List ℕ) (factor : ℕ) (rest q : List ℕ) (f : ℕ) (r : List ℕ) → IsStoreLine output input iname bytes factor rest → bytes ≡ store_open output iname ++ q → IsFactorAt q f r → store_close input iname ++ rest ≡ r
store_second output input iname bytes factor rest q f r h e k =
    (run_same is_ascii_digit q (decimal factor) (store_close input iname ++ rest) (decimal f) r (factor_run q (store_close input iname ++ rest) factor (store_first output input iname bytes factor rest q h e)) (factor_run q r f k)).rests

pub store_made : (output input iname bytes q : List ℕ) (f : ℕ) (r rest : List ℕ) → bytes ≡ store_open output iname ++ q → IsFactorAt q f r → r ≡ store_close input iname ++ rest → IsStoreLine output input iname bytes f rest
store_made output input iname bytes q f r rest e k l = record {
  is = e ∙ ap (λ (z : List ℕ). store_open output iname ++ z) (k.is ∙ ap (λ (z : List ℕ). decimal f ++ z) l) ∙ sym (store_text output input iname f rest);
  small = k.small;
}

pub record DomainsSame (param iname rest p i r : List ℕ) : Type 0 where
  pub params : param ≡ p
  pub inames : iname ≡ i
  pub rests : rest ≡ r

pub domain_same : (bytes param iname rest p i r : List ℕ) → IsDomainLine bytes param iname rest → IsDomainLine bytes p i r → DomainsSame param iname rest p i r
domain_same bytes param iname rest p i r h k =
    let first = domain_first bytes p i r k in
    let second = (domain_second bytes p i r p (domain_mid p i r) k first).1 in
    let same = domain_third bytes param iname rest p (domain_mid p i r) i (domain_close p i ++ r) h first second in
    record {
      params = same.params;
      inames = same.inames;
      rests = append_cancel_left (domain_close p i) rest r (sym same.rests);
    }

pub array_same : (role param : List ℕ) (declared others : List (List ℕ)) (bytes name rest n r : List ℕ) → IsArrayLine role param declared bytes name rest → IsArrayLine role param others bytes n r → Same name rest n r
array_same role param declared others bytes name rest n r h k =
    let same = array_second role param declared bytes name rest n (array_close param ++ r) h (array_first role param others bytes n r k) in
    record {
      names = same.names;
      rests = append_cancel_left (array_close param) rest r same.rests;
    }
