-- Bytes that were read to a place and behind it are read together.
use Rattle.std.proofs.Common.{◌≡◌, ◌≤◌, ◌+◌, ℕ, List, ◌++◌, length, take, sym, ap, ◌∙◌, subst, length-take-le}
use Rattle.std.proofs.lemmas.List.{take-append-le}
use Rattle.std.proofs.Math.Seq.{take-append-add}
use Rattle.std.specs.Prelude.{Option}
use Rattle.std.specs.Io.KnownBytes.{Consumes}
use Rattle.std.proofs.KnownBytes.{Consumes-trans}
use borrow.Rule.Slice.PartMut.{put_mid, post_of}

-- n bytes more, where a reader was lent the k bytes from a place on
take-read : (at k n : ℕ) (old part : List ℕ) → at ≤ length old → n ≤ length part → take at old ++ take n part ≡ take (at + n) (put_mid at k old part)
take-read at k n old part h fits =
    let front = take at old in
    let tail = post_of at k old in
    sym (ap (λ (m : ℕ). take (m + n) (front ++ (part ++ tail))) (sym (length-take-le at old h))
    ∙ take-append-add front (part ++ tail) n ∙ ap (λ (l : List ℕ). front ++ l) (take-append-le n part tail fits))

pub read_more : (a b c : Option (List ℕ)) (at k n : ℕ) (old part : List ℕ) → at ≤ length old → n ≤ length part
    → Consumes a b (take at old) → Consumes b c (take n part) → Consumes a c (take (at + n) (put_mid at k old part))
read_more a b c at k n old part h fits before now =
    subst (Consumes a c) (take-read at k n old part h fits) (Consumes-trans a b c (take at old) (take n part) before now)
