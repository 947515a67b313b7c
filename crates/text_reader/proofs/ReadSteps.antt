-- Reading at a place of the bytes.
use Rattle.std.proofs.Common.{◌≡◌, ◌<◌, ◌≤◌, ◌+◌, ◌-◌, ℕ, List, ◌++◌, length, take, drop, sym, ap, ◌∙◌, refl, subst, length-drop, arith}
use Rattle.std.proofs.lemmas.List.{take-append-drop, length-take, drop-drop}
use Rattle.text_reader.specs.declared.form.Form.{Form}
use Rattle.text_reader.specs.declared.token.Token as declared
use Rattle.text_reader.specs.declared.token.Class.TheVariants.{Word, Number, Sign, LineEnd}
use Rattle.text_reader.specs.declared.lexeme.Piece.{Piece}
use Rattle.text_reader.specs.declared.lexeme.Piece.TheVariants.{Blank, Comment, Token}
use Rattle.text_reader.specs.declared.place.Place.{Place}
use Rattle.text_reader.specs.Lexemes.{IsLexeme, text_of}
use Rattle.text_reader.specs.Tokens.{behind, token_of}
use Rattle.text_reader.specs.Faults.{EndsIn, IsFaultAt}
use Rattle.text_reader.specs.Progress.{IsReadTo, IsStuck}
use Rattle.text_reader.proofs.ReadOn.{read_more, stuck_there}
use Rattle.text_reader.proofs.LinePlaces.{read_behind, ends_in, start_before, line_few}

pub starts_before : (form : Form) (bytes rest : List ℕ) (place : Place) (tokens : List declared.Token) → IsReadTo form bytes rest place tokens → place.start ≤ place.at
starts_before form bytes rest place tokens h = start_before (text_of h.lexemes) place (read_behind form bytes rest place tokens h)

pub few_lines : (form : Form) (bytes rest : List ℕ) (place : Place) (tokens : List declared.Token) → IsReadTo form bytes rest place tokens → place.line ≤ 1 + place.at
few_lines form bytes rest place tokens h = line_few (text_of h.lexemes) place (read_behind form bytes rest place tokens h)

pub behind_at : (place : Place) (piece : Piece) (n : ℕ) → (behind place piece n).at ≡ place.at + n
behind_at place Blank n = refl
behind_at place Comment n = refl
behind_at place (Token Word) n = refl
behind_at place (Token Number) n = refl
behind_at place (Token Sign) n = refl
behind_at place (Token LineEnd) n = refl

pub read_next : (form : Form) (bytes : List ℕ) (place next : Place) (tokens new : List declared.Token) (piece : Piece) (n : ℕ) → IsReadTo form bytes (drop place.at bytes) place tokens → n ≤ length (drop place.at bytes) → IsLexeme form piece (take n (drop place.at bytes)) (drop n (drop place.at bytes)) → next ≡ behind place piece n → new ≡ tokens ++ token_of place piece n → IsReadTo form bytes (drop next.at bytes) next new
read_next form bytes place next tokens new piece n h within k is more =
    let rest = drop place.at bytes in
    let taken : length (take n rest) ≡ n = omega (arith, length-take n rest) in
    let all = read_more form bytes rest place tokens piece (take n rest) (drop n rest) h k (take-append-drop n rest) in
    let counted = subst (λ (m : ℕ). IsReadTo form bytes (drop n rest) (behind place piece m) (tokens ++ token_of place piece m)) taken all in
    let at : next.at ≡ place.at + n = ap (λ (p : Place). p.at) is ∙ behind_at place piece n in
    let left : drop n rest ≡ drop next.at bytes = drop-drop n place.at bytes ∙ ap (λ (m : ℕ). drop m bytes) (sym at) in
    let placed = subst (λ (p : Place). IsReadTo form bytes (drop n rest) p (tokens ++ token_of place piece n)) (sym is) counted in
    let listed = subst (λ (t : List declared.Token). IsReadTo form bytes (drop n rest) next t) (sym more) placed in
    subst (λ (z : List ℕ). IsReadTo form bytes z next new) left listed

pub read_stuck : (form : Form) (bytes : List ℕ) (place : Place) (tokens : List declared.Token) (count : ℕ) → IsReadTo form bytes (drop place.at bytes) place tokens → place.at < length bytes → IsStuck form (drop place.at bytes) count → IsFaultAt form bytes place.line (place.at - place.start + count)
read_stuck form bytes place tokens count h left k =
    let rest = drop place.at bytes in
    let ends = ends_in (text_of h.lexemes) k.front place (read_behind form bytes rest place tokens h) k.within in
    let counted = subst (λ (m : ℕ). EndsIn place.line (place.at - place.start + m) (text_of h.lexemes ++ k.front)) (sym k.counted) ends in
    stuck_there form bytes rest place tokens count place.line (place.at - place.start + count) h k (omega (arith, length-drop place.at bytes)) counted
