-- Bytes that were read to a place and behind it, or written up to it and from it on, are read or written together.
use Rattle.std.proofs.Common.{◌≡◌, ◌<◌, ◌≤◌, ◌+◌, zero, suc, ℕ, List, [], ◌∷◌, ◌++◌, length, take, drop, refl, sym, ap, ◌∙◌, subst, arith, length-take-le}
use Rattle.std.proofs.lemmas.List.{take-append-le}
use Rattle.std.proofs.Math.Seq.{take-append-add}
use Rattle.std.specs.Prelude.{Option, None, Some, IfSome, Result, Ok, Err, IfOk, OnErr}
use Rattle.std.specs.Io.KnownBytes.{Appends, Consumes, IsAtEnd}
use Rattle.std.proofs.KnownBytes.{Consumes-trans}
use Rattle.totals_spec.specs.program.Program.{program_text}
use Rattle.text.specs.Streams.{ConsumesFewer, AppendsPart}
use Rattle.text.specs.Answered.{IsAnswered}
use Rattle.text.specs.declared.answer.Answered.{Answered}
use Rattle.text.specs.declared.stream.Failure.{Failure}
use Rattle.text.proofs.Told.{answered_from}
use Rattle.text.proofs.Prefix.{prefix}
use borrow.Rule.Slice.PartMut.{put_mid, post_of}

-- n bytes more, where a reader was lent the k bytes from a place on
take-read : (at k n : ℕ) (old part : List ℕ) → at ≤ length old → n ≤ length part → take at old ++ take n part ≡ take (at + n) (put_mid at k old part)
take-read at k n old part h fits =
    let front = take at old in
    let tail = post_of at k old in
    sym (ap (λ (m : ℕ). take (m + n) (front ++ (part ++ tail))) (sym (length-take-le at old h))
    ∙ take-append-add front (part ++ tail) n ∙ ap (λ (l : List ℕ). front ++ l) (take-append-le n part tail fits))

pub read_more : (a b c : Option (List ℕ)) (at k n : ℕ) (old part : List ℕ) → at ≤ length old → n ≤ length part
    → Consumes a b (take at old) → Consumes b c (take n part) → Consumes a c (take (at + n) (put_mid at k old part))
read_more a b c at k n old part h fits before now =
    subst (Consumes a c) (take-read at k n old part h fits) (Consumes-trans a b c (take at old) (take n part) before now)

pub on_err : {A E P : Type 0} (r : Result A E) → P → OnErr r P
on_err (Ok x) p = tt
on_err (Err e) p = p

-- where reading stops at a number of bytes or at the end, what was read are the first so many
front_and_rest : (n : ℕ) (bytes rest : List ℕ) → length bytes ≤ n → (length bytes < n → rest ≡ [])
    → (take n (bytes ++ rest) ≡ bytes) × (drop n (bytes ++ rest) ≡ rest)
front_and_rest zero [] rest h end = (refl, refl)
front_and_rest (suc n) [] rest h end = let none : rest ≡ [] = end (omega arith) in (rw none refl, rw none refl)
front_and_rest zero (x ∷ bytes) rest h end = absurd (omega arith)
front_and_rest (suc n) (x ∷ bytes) rest h end =
    let parts = front_and_rest n bytes rest (omega arith) (λ less. end (omega arith)) in
    (ap (λ (l : List ℕ). x ∷ l) parts.0, parts.1)

-- then they are the bytes that decide what an input is answered with: a is what was known before, b is what is left
abbrev pub Decides : (a b : Option (List ℕ)) → (bytes : List ℕ) → Type 0
Decides a b bytes = IfSome a (λ input. (take 139265 input ≡ bytes) × (b ≡ Some (drop 139265 input)))

decided : (a b : Option (List ℕ)) (bytes : List ℕ) → Consumes a b bytes → length bytes ≤ 139265 → (length bytes < 139265 → IsAtEnd b)
    → Decides a b bytes
decided None b bytes taken short end = tt
decided (Some input) None bytes taken short end = absurd taken
decided (Some input) (Some rest) bytes taken short end =
    let parts = front_and_rest 139265 bytes rest short end in
    let behind : drop 139265 input ≡ rest = ap (λ (l : List ℕ). drop 139265 l) taken ∙ parts.1 in
    (ap (λ (l : List ℕ). take 139265 l) taken ∙ parts.0, ap Some (sym behind))

pub some_fewer : (a b : Option (List ℕ)) (n : ℕ) → ConsumesFewer a b n → IfSome a (λ input. ConsumesFewer (Some input) b n)
some_fewer None b n h = tt
some_fewer (Some input) b n h = h

-- the same of a buffer of that length, of which the first n bytes were read
pub read_decides : (a b : Option (List ℕ)) (n : ℕ) (buffer : List ℕ) → length buffer ≡ 139265 → n ≤ length buffer
    → Consumes a b (take n buffer) → (n < length buffer → IsAtEnd b) → Decides a b (take n buffer)
read_decides a b n buffer size within taken end =
    let same : length (take n buffer) ≡ n = length-take-le n buffer within in
    decided a b (take n buffer) taken (omega (arith, same, size, within)) (λ less. end (omega (arith, same, size, less)))

same_text : (input bytes text : List ℕ) → take 139265 input ≡ bytes → text ≡ program_text bytes → text ≡ program_text input
same_text input bytes text d e = e ∙ ap program_text (sym d) ∙ prefix input

-- so what is written of that text is written of the input's
module _ (a b : Option (List ℕ)) (bytes : List ℕ) (d : Decides a b bytes) where
  pub written-whole : (before after : Option (List ℕ)) (text : List ℕ) → text ≡ program_text bytes → Appends before after text
      → IfSome a (λ input. Appends before after (program_text input))
  written-whole before after text e w = whole a d
    where
      whole : (a : Option (List ℕ)) → Decides a b bytes → IfSome a (λ input. Appends before after (program_text input))
      whole None d = tt
      whole (Some input) d = subst (Appends before after) (same_text input bytes text d.0 e) w

  pub written-part : (before after : Option (List ℕ)) (text : List ℕ) → text ≡ program_text bytes → AppendsPart before after text
      → IfSome a (λ input. AppendsPart before after (program_text input))
  written-part before after text e w = part a d
    where
      part : (a : Option (List ℕ)) → Decides a b bytes → IfSome a (λ input. AppendsPart before after (program_text input))
      part None d = tt
      part (Some input) d = subst (AppendsPart before after) (same_text input bytes text d.0 e) w

  pub left-behind : IfSome a (λ input. b ≡ Some (drop 139265 input))
  left-behind = left a d
    where
      left : (a : Option (List ℕ)) → Decides a b bytes → IfSome a (λ input. b ≡ Some (drop 139265 input))
      left None d = tt
      left (Some input) d = d.1

  -- what these bytes are answered with holds of the whole input
  pub answered-whole : (t : Answered) → IsAnswered t bytes → IfSome a (λ input. IsAnswered t input)
  answered-whole t k = whole a d
    where
      whole : (a : Option (List ℕ)) → Decides a b bytes → IfSome a (λ input. IsAnswered t input)
      whole None d = tt
      whole (Some input) d = answered_from t input (subst (IsAnswered t) (sym d.0) k)

pub unanswered : (a : Option (List ℕ)) (f : Failure) → IfSome a (λ input. IfOk (Err f) (λ (t : Answered). IsAnswered t input))
unanswered None f = tt
unanswered (Some input) f = tt
