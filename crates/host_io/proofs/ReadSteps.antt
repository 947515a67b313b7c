-- A file read in pieces.
use Rattle.std.proofs.Common.{◌≡◌, ℕ, ◌+◌, ◌<◌, ◌≤◌, List, [], ◌∷◌, ◌++◌, length, Option, Some, None, refl, sym, ap, subst, ◌∙◌, inr, append_assoc, arith, rules, length-append}
use Rattle.std.specs.Prelude.{MatchOption, IsSome, IsNone, IfSome, IsSomeAnd, Contains}
use Rattle.std.specs.Io.KnownBytes.{prepend_known, IsAtEnd}
use Rattle.std.proofs.lemmas.List.Elements.{Contains-append_right}
use Rattle.std.proofs.lemmas.Grind.{common_steps}
use Rattle.host_io.specs.Told.{Told, Reads, Opens, Takes, FailsRead, ReadsAtMost, Rose, OpenMayFail, IsFile, IsLongerThan, bytes_of}

-- no read has failed so far, and no more bytes than that were taken
pub record ReadsSoFar (first now : Told) (name : List ℕ) (file : ℕ) (taken : List ℕ) (most : ℕ) : Type 0 where
  pub reads : Reads first now name file taken
  pub no_fault : now.read_faults ≡ first.read_faults
  pub within : length taken ≤ most

prepend_none : (known : Option (List ℕ)) → prepend_known [] known ≡ known
prepend_none None = refl
prepend_none (Some xs) = refl

prepend_more : (known : Option (List ℕ)) (xs ys : List ℕ) → prepend_known xs (prepend_known ys known) ≡ prepend_known (xs ++ ys) known
prepend_more None xs ys = refl
prepend_more (Some zs) xs ys = ap Some (sym (append_assoc xs ys zs))

front_none : (files : Option (List (List ℕ × List ℕ))) (name : List ℕ) (unread : Option (List ℕ)) →
    MatchOption files (Unit {0}) (λ fs. IsSome (bytes_of fs name) × (unread ≡ bytes_of fs name)) →
    MatchOption files (Unit {0}) (λ fs. IsSome (bytes_of fs name) × (bytes_of fs name ≡ prepend_known [] unread))
front_none None name unread h = tt
front_none (Some fs) name unread h = (h.0, sym h.1 ∙ sym (prepend_none unread))

front_more : (files : Option (List (List ℕ × List ℕ))) (name taken piece : List ℕ) (unread left : Option (List ℕ)) →
    unread ≡ prepend_known piece left →
    MatchOption files (Unit {0}) (λ fs. IsSome (bytes_of fs name) × (bytes_of fs name ≡ prepend_known taken unread)) →
    MatchOption files (Unit {0}) (λ fs. IsSome (bytes_of fs name) × (bytes_of fs name ≡ prepend_known (taken ++ piece) left))
front_more None name taken piece unread left e h = tt
front_more (Some fs) name taken piece unread left e h = (h.0, h.1 ∙ (ap (prepend_known taken) e ∙ prepend_more left taken piece))

pub ReadsSoFar-none : (first now : Told) (name : List ℕ) (file most : ℕ) → Opens first now name file → ReadsSoFar first now name file [] most
ReadsSoFar-none first now name file most opens = record {
  reads = record {
    fresh = opens.fresh;
    front = front_none first.files name (now.unread file) opens.whole;
    others = opens.others;
    rest = let same : now.read_faults ≡ first.read_faults = ap (λ (t : Told). t.read_faults) opens.rest in opens.rest ∙ ap (λ (n : ℕ). record first { numbers = first.numbers ++ file ∷ []; unread = now.unread; read_faults = n }) (sym same);
  };
  no_fault = ap (λ (t : Told). t.read_faults) opens.rest;
  within = omega arith;
}

pub ReadsSoFar-more : (first now next : Told) (name : List ℕ) (file : ℕ) (taken piece : List ℕ) (most : ℕ) → ReadsSoFar first now name file taken most → Takes now next file piece → length taken + length piece ≤ most → ReadsSoFar first next name file (taken ++ piece) most
ReadsSoFar-more first now next name file taken piece most so_far takes within = record {
  reads = record {
    fresh = so_far.reads.fresh;
    front = front_more first.files name taken piece (now.unread file) (next.unread file) takes.bytes so_far.reads.front;
    others = λ other apart. takes.others other apart ∙ so_far.reads.others other apart;
    rest = let same : next.read_faults ≡ now.read_faults = ap (λ (t : Told). t.read_faults) takes.rest in
        takes.rest ∙ (ap (λ (t : Told). record t { unread = next.unread }) so_far.reads.rest
        ∙ ap (λ (n : ℕ). record first { numbers = first.numbers ++ file ∷ []; unread = next.unread; read_faults = n }) (sym same));
  };
  no_fault = ap (λ (t : Told). t.read_faults) takes.rest ∙ so_far.no_fault;
  within = omega (arith, length-append taken piece);
}

pub ReadsSoFar-is_open : (first now : Told) (name : List ℕ) (file : ℕ) (taken : List ℕ) (most : ℕ) → ReadsSoFar first now name file taken most → Contains now.numbers file
ReadsSoFar-is_open first now name file taken most so_far =
    subst (λ (numbers : List ℕ). Contains numbers file) (sym (ap (λ (t : Told). t.numbers) so_far.reads.rest))
    (Contains-append_right first.numbers (file ∷ []) file (0, omega arith, refl))

pub ReadsSoFar-reads : (first now : Told) (name : List ℕ) (file : ℕ) (taken : List ℕ) (most : ℕ) → ReadsSoFar first now name file taken most → ReadsAtMost first now name most
ReadsSoFar-reads first now name file taken most so_far = inr (file, taken, so_far.within, so_far.reads)

front_same : (files : Option (List (List ℕ × List ℕ))) (name taken : List ℕ) (unread unread' : Option (List ℕ)) →
    unread ≡ unread' →
    MatchOption files (Unit {0}) (λ fs. IsSome (bytes_of fs name) × (bytes_of fs name ≡ prepend_known taken unread)) →
    MatchOption files (Unit {0}) (λ fs. IsSome (bytes_of fs name) × (bytes_of fs name ≡ prepend_known taken unread'))
front_same None name taken unread unread' e h = tt
front_same (Some fs) name taken unread unread' e h = (h.0, h.1 ∙ ap (prepend_known taken) e)

pub ReadsSoFar-fails : (first now next : Told) (name : List ℕ) (file : ℕ) (taken : List ℕ) (most : ℕ) → ReadsSoFar first now name file taken most → FailsRead now next → ReadsAtMost first next name most
ReadsSoFar-fails first now next name file taken most so_far fails =
    let same : next.unread ≡ now.unread = ap (λ (t : Told). t.unread) fails.rest in
    inr (
      file,
      taken,
      so_far.within,
      record {
        fresh = so_far.reads.fresh;
        front = front_same first.files name taken (now.unread file) (next.unread file) (sym (ap (λ (u : ℕ → Option (List ℕ)). u file) same)) so_far.reads.front;
        others = λ other apart. ap (λ (u : ℕ → Option (List ℕ)). u other) same ∙ so_far.reads.others other apart;
        rest = fails.rest ∙ (ap (λ (t : Told). record t { read_faults = next.read_faults }) so_far.reads.rest
            ∙ ap (λ (u : ℕ → Option (List ℕ)). record first { numbers = first.numbers ++ file ∷ []; unread = u; read_faults = next.read_faults }) (sym same));
      },
    )

pub ReadsSoFar-rose : (first now next : Told) (name : List ℕ) (file : ℕ) (taken : List ℕ) (most : ℕ) → ReadsSoFar first now name file taken most → FailsRead now next → Rose first.read_faults next.read_faults
ReadsSoFar-rose first now next name file taken most so_far fails = let e : now.read_faults ≡ first.read_faults = so_far.no_fault in omega (arith, fails.rose)

unsure : (sure : Option ℕ) (P : ℕ → Type 0) → IsNone sure → IfSome sure P
unsure None P none = tt
unsure (Some room) P none = absurd (search rules)

pub ReadsSoFar-unsure : (first now : Told) (name : List ℕ) (file : ℕ) (taken : List ℕ) (most : ℕ) → ReadsSoFar first now name file taken most → IsNone now.sure_room → OpenMayFail first name
ReadsSoFar-unsure first now name file taken most so_far none = unsure first.sure_room _ (subst (λ (sure : Option ℕ). IsNone sure) (ap (λ (t : Told). t.sure_room) so_far.reads.rest) none)

whole_at_end : (bytes : Option (List ℕ)) (taken : List ℕ) (unread : Option (List ℕ)) → IsSome bytes → bytes ≡ prepend_known taken unread → IsAtEnd unread → bytes ≡ Some taken
whole_at_end None taken unread some e end = absurd (search rules)
whole_at_end (Some bytes) taken None some e end = cc
whole_at_end (Some bytes) taken (Some left) some e end = let at_end : left ≡ [] = end in e ∙ ap Some (grind (arith, common_steps))

whole_of : (files : Option (List (List ℕ × List ℕ))) (name taken : List ℕ) (unread : Option (List ℕ)) →
    MatchOption files (Unit {0}) (λ fs. IsSome (bytes_of fs name) × (bytes_of fs name ≡ prepend_known taken unread)) →
    IsAtEnd unread →
    MatchOption files (Unit {0}) (λ fs. bytes_of fs name ≡ Some taken)
whole_of None name taken unread h end = tt
whole_of (Some fs) name taken unread h end = whole_at_end (bytes_of fs name) taken unread h.0 h.1 end

pub ReadsSoFar-whole : (first now : Told) (name : List ℕ) (file : ℕ) (taken : List ℕ) (most : ℕ) → ReadsSoFar first now name file taken most → IsAtEnd (now.unread file) → IsFile first name taken
ReadsSoFar-whole first now name file taken most so_far end = whole_of first.files name taken (now.unread file) so_far.reads.front end

longer_than : (bytes : Option (List ℕ)) (taken : List ℕ) (unread : Option (List ℕ)) (most : ℕ) → IsSome bytes → bytes ≡ prepend_known taken unread → most < length taken → IsSomeAnd bytes (λ whole. most < length whole)
longer_than None taken unread most some e more = absurd (search rules)
longer_than (Some bytes) taken None most some e more = cc
longer_than (Some bytes) taken (Some left) most some e more = let same : bytes ≡ taken ++ left = cc in omega (arith, ap length same, length-append taken left)

longer_of : (files : Option (List (List ℕ × List ℕ))) (name taken : List ℕ) (unread : Option (List ℕ)) (most : ℕ) →
    MatchOption files (Unit {0}) (λ fs. IsSome (bytes_of fs name) × (bytes_of fs name ≡ prepend_known taken unread)) →
    most < length taken →
    MatchOption files (Unit {0}) (λ fs. IsSomeAnd (bytes_of fs name) (λ bytes. most < length bytes))
longer_of None name taken unread most h more = tt
longer_of (Some fs) name taken unread most h more = longer_than (bytes_of fs name) taken unread most h.0 h.1 more

pub ReadsSoFar-longer : (first now : Told) (name : List ℕ) (file : ℕ) (taken : List ℕ) (most limit : ℕ) → ReadsSoFar first now name file taken most → limit < length taken → IsLongerThan first name limit
ReadsSoFar-longer first now name file taken most limit so_far more = longer_of first.files name taken (now.unread file) limit so_far.reads.front more
