-- A text that grows: more bytes stand in the place of as many zeros.
use Rattle.std.proofs.Common.{◌≡◌, ◌∙◌, refl, sym, ap, ap₂, subst, ℕ, List, ◌+◌, ◌-◌, ◌++◌, ◌≤◌}
use Rattle.std.proofs.Common.{length, take, drop, arith, length-append, append_assoc}
use Rattle.std.specs.Prelude.{replicate}
use Rattle.std.proofs.lemmas.List.{take_at, drop_at, drop-replicate}
use borrow.Rule.Slice.PartMut.{put_mid}
use Rattle.text.specs.declared.write.Text.TheInside.{Inside}
use Rattle.text.specs.Holds.{Holds, held}

held_is : (t : Inside) (l : List ℕ) → Holds t l → held t ≡ l
held_is t l h =
    ap₂ (λ (n : ℕ) (bytes : List ℕ). take n bytes) h.length-is h.bytes-are ∙ take_at l (replicate (64 - length l) 0) (length l) refl

-- k bytes were put behind the text
abbrev pub grown : Inside → (k : ℕ) → List ℕ → Inside
grown t k more = record { length = t.length + k; bytes = put_mid t.length (t.length + k - t.length) t.bytes more }

module _ (t : Inside) (more : List ℕ) (h : Holds t (held t)) (room : t.length + length more ≤ 64) where
  behind : (k : ℕ) → k ≡ length more → drop k (drop t.length t.bytes) ≡ replicate (64 - length (held t ++ more)) 0
  behind k e =
      ap (λ (l : List ℕ). drop k (drop t.length l)) h.bytes-are
      ∙ ap (λ (l : List ℕ). drop k l) (drop_at (held t) (replicate (64 - length (held t)) 0) t.length (sym h.length-is))
      ∙ drop-replicate k (64 - length (held t)) 0
      ∙ ap (λ (n : ℕ). replicate n 0) (let left : 64 - length (held t) - k ≡ 64 - length (held t ++ more) = rw length-append (omega (arith, e)) in left)

  holds_more : Holds (grown t (length more) more) (held t ++ more)
  holds_more = record {
    fits = rw length-append (omega (arith, h.length-is, room));
    length-is = rw length-append (omega (arith, h.length-is));
    bytes-are =
        ap (λ (l : List ℕ). held t ++ (more ++ l)) (behind (t.length + length more - t.length) (omega arith))
        ∙ sym (append_assoc (held t) more (replicate (64 - length (held t ++ more)) 0));
  }

  pub grown_holds : (put : List ℕ) → put ≡ more → Holds (grown t (length more) put) (held (grown t (length more) put))
  grown_holds put e =
      subst (λ (l : List ℕ). Holds (grown t (length more) l) (held (grown t (length more) l))) (sym e)
      (subst (Holds (grown t (length more) more)) (sym (held_is (grown t (length more) more) (held t ++ more) holds_more)) holds_more)

  pub grown_held : (put : List ℕ) → put ≡ more → held (grown t (length more) put) ≡ held t ++ more
  grown_held put e =
      ap (λ (l : List ℕ). held (grown t (length more) l)) e ∙ held_is (grown t (length more) more) (held t ++ more) holds_more
