-- Texts that are written turn by turn.
use Rattle.std.proofs.Common.{◌≡◌, ℕ, zero, suc, ◌+◌, ◌-◌, ◌*◌, ◌<◌, ◌≤◌, min, List, [], ◌∷◌, ◌++◌, length, map, drop, get_or, codes, refl, sym, ap, subst, ◌∙◌, append_assoc, append-nil, add-one, drop-cons, drop_of_length-le, length-drop, length-append, arith}
use Rattle.std.proofs.lemmas.List.{length-map}
use Rattle.text_writer.specs.Bytes.{Bytes, repeated, in_round}
use Rattle.code_text.specs.BoundText.{list_text, horner_text, places_text, turn_text}

-- one turn of `write_list`
pub list_step : (call b : Bytes) (bs : List Bytes) (n : ℕ) → 0 < length bs
    → list_text call (b ∷ bs) ++ repeated (codes ")") n ≡ (call ++ codes "(" ++ b ++ codes ", ") ++ (list_text call bs ++ repeated (codes ")") (n + 1))
list_step call b [] n l = absurd (omega arith)
list_step call b (c ∷ bs) n l = rw add-one (simp append_assoc)

-- the turns of a subscript after its first place
abbrev pub turns : List Bytes → List Bytes → Bytes
turns [] shapes = []
turns (place ∷ places) [] = []
turns (place ∷ places) (shape ∷ shapes) = turn_text shape place ++ turns places shapes

-- an opening parenthesis before or behind the others
pub repeated_shift : (b : ℕ) (n : ℕ) → repeated (b ∷ []) n ++ b ∷ [] ≡ b ∷ repeated (b ∷ []) n
repeated_shift b zero = refl
repeated_shift b (suc n) = ap (λ (t : Bytes). b ∷ t) (repeated_shift b n)

one_more : (opens so_far turn rest : Bytes) {after : Bytes} → opens ++ 40 ∷ [] ≡ after
    → opens ++ ((codes "(" ++ so_far ++ turn) ++ rest) ≡ after ++ (so_far ++ (turn ++ rest))
one_more opens so_far turn rest e = rw (← e) (simp append_assoc)

pub horner_turns : (so_far : Bytes) (places shapes : List Bytes)
    → horner_text so_far places shapes ≡ repeated (codes "(") (min (length places) (length shapes)) ++ (so_far ++ turns places shapes)
horner_turns so_far [] shapes = let e : min 0 (length shapes) ≡ 0 = omega arith in rw e (sym (append-nil so_far))
horner_turns so_far (place ∷ places) [] = let e : min (suc (length places)) 0 ≡ 0 = omega arith in rw e (sym (append-nil so_far))
horner_turns so_far (place ∷ places) (shape ∷ shapes) =
    let n = min (length places) (length shapes) in
    let e : min (suc (length places)) (suc (length shapes)) ≡ suc n = omega arith in
    let h = horner_turns (codes "(" ++ so_far ++ turn_text shape place) places shapes in
    rw e (h ∙ one_more (repeated (codes "(") n) so_far (turn_text shape place) (turns places shapes) (repeated_shift 40 n))

-- an element and what comes behind it
pub drop_at : {A : Type 0} (xs : List A) (i : ℕ) (x : A) → i < length xs → x ≡ get_or xs i x → drop i xs ≡ x ∷ drop (i + 1) xs
drop_at {A} xs i x l here = rw (add-one i) (drop-cons xs i x l ∙ ap (λ (z : A). z ∷ drop (suc i) xs) (sym here))

-- one turn of the loop of `write_list`, over what stands before it
pub list_turn : {A : Type 0} (f : A → Bytes) (call : Bytes) (xs : List A) (i : ℕ) (x : A) → i + 1 < length xs → x ≡ get_or xs i x
    → list_text call (map f (drop i xs)) ++ repeated (codes ")") i
    ≡ (call ++ codes "(" ++ f x ++ codes ", ") ++ (list_text call (map f (drop (i + 1) xs)) ++ repeated (codes ")") (i + 1))
list_turn f call xs i x l here =
    let within : i < length xs = omega arith in
    let more : 0 < length (map f (drop (i + 1) xs)) = simp (length-map, length-drop) (omega arith) in
    rw (drop_at xs i x within here) (list_step call (f x) (map f (drop (i + 1) xs)) i more)

-- the last bound of `write_list`
pub list_last : {A : Type 0} (f : A → Bytes) (call : Bytes) (xs : List A) (i : ℕ) (x : A) → i + 1 ≡ length xs → x ≡ get_or xs i x
    → list_text call (map f (drop i xs)) ≡ f x
list_last f call xs i x l here =
    let within : i < length xs = omega arith in
    let past : length xs ≤ i + 1 = omega arith in
    rw (drop_at xs i x within here, drop_of_length-le xs past) refl

-- the first place, with what stands before and behind it
pub places_begin : {A : Type 0} (f : A → Bytes) (places shapes : List A) (n : ℕ) (x : A) → 0 < length places → n ≡ min (length places - 1) (length shapes)
    → x ≡ get_or places 0 x
    → repeated (codes "(") n ++ (in_round (f x) ++ turns (map f (drop 1 places)) (map f shapes)) ≡ places_text (map f places) (map f shapes)
places_begin f [] shapes n x l e here = absurd (omega arith)
places_begin {A} f (place ∷ places) shapes n x l e here =
    let e2 : n ≡ min (length (map f places)) (length (map f shapes)) = simp length-map (omega arith) in
    rw e2 (subst (λ (y : A). repeated (codes "(") (min (length (map f places)) (length (map f shapes))) ++ (in_round (f y) ++ turns (map f places) (map f shapes)) ≡ places_text (map f (place ∷ places)) (map f shapes)) (sym here) (sym (horner_turns (in_round (f place)) (map f places) (map f shapes))))

ends : (places shapes : List Bytes) → min (length places) (length shapes) ≡ 0 → turns places shapes ≡ []
ends [] shapes e = refl
ends (place ∷ places) [] e = refl
ends (place ∷ places) (shape ∷ shapes) e = absurd (omega arith)

-- no turn is left
pub turns_end : {A : Type 0} (f : A → Bytes) (places shapes : List A) (n : ℕ) → n ≡ min (length places - 1) (length shapes)
    → turns (map f (drop (n + 1) places)) (map f (drop n shapes)) ≡ []
turns_end f places shapes n e = ends (map f (drop (n + 1) places)) (map f (drop n shapes)) (simp (length-map, length-drop) (omega arith))

-- what is left is the last entry and what closes the list
pub closed : (o p q entry rest left close x : Bytes) → o ++ (left ++ rest) ≡ x → left ≡ entry → rest ≡ close → p ≡ o ++ entry → q ≡ p ++ close → q ≡ x
closed o p q entry rest left close x h e s w v = rw (v, w, append_assoc, ← e, ← s) h

-- two pieces written, before what is left of a whole
pub begun : (o p q a b rest x : Bytes) → p ≡ o ++ a → q ≡ p ++ b → a ++ (b ++ rest) ≡ x → q ++ rest ≡ o ++ x
begun o p q a b rest x e1 e2 h = rw (e2, e1, append_assoc) (rw append_assoc (ap (λ (z : Bytes). o ++ z) h))

-- nothing is left
pub ended : (o rest x : Bytes) → o ++ rest ≡ x → rest ≡ [] → o ≡ x
ended o rest x h e = sym (append-nil o) ∙ ap (λ (z : Bytes). o ++ z) (sym e) ∙ h
