-- What the last words of a page say of its trailer.
use mathlib.Core.Path.{◌≡◌, refl, sym, ap, ap₂, ◌∙◌, subst}
use mathlib.Core.Logic.{◌≢◌, ◌⊎◌, inl, inr}
use mathlib.Core.Bool.{Bool, true, false}
use mathlib.Core.List.{List, ◌++◌}
use Prim.Native.Nat.{ℕ, ◌+◌, ◌-◌, ◌*◌, ◌≤◌, ◌<◌}
use native.Mathlib.Omega.{arith}
use lib.ListN.{length, take, drop, length-drop, take-append-drop}
use lib.Seq.{take_all, take-take, length-take-le, drop-drop}
use borrow.Author.Tests.{le-leb, lt-leb}
use Rattle.std.specs.Int.{w64, from_le_bytes}
use Rattle.std.proofs.lemmas.List.{drop-take}
use Rattle.totals_spec.specs.entries.Bytes.{from_bytes, to_bytes}
use Rattle.pages_spec.specs.Pages.{short_most, short_trailer, long_trailer, trailer, trailer_length, last_bytes, opens}
use Rattle.pages_spec.proofs.PartsOfAPage.{AllBytes, bytes-at, short-words, long-words}
use Rattle.pages_spec.proofs.Pages.{by-range, trailer-length, last-last}
use Rattle.totals_spec.proofs.entries.ReadBack.{bytes_back}
use Rattle.std.specs.Prelude.{Option, Some, None}
use Rattle.values.proofs.Chunks.{eight_bytes}
use Rattle.pages.specs.Paged.{Counts, short_ending, long_ending, ShortSizes, LongSizes, Trails}

pub not-open : (page : List ℕ) → (opens page ≡ true → ⊥) → opens page ≡ false
not-open page f = go (opens page) refl
  where
    go : (b : Bool) → opens page ≡ b → b ≡ false
    go true e = absurd (f e)
    go false e = refl

pub trailer-least : (n : ℕ) → 16 ≤ trailer_length n
trailer-least n = by-range (λ t k. 16 ≤ k) n (λ _. omega arith) (λ _. omega arith)

counts-by : (P Q : ℕ → Type 0) → ((n : ℕ) → P n → Q n) → ((n : ℕ) → Q n → P n) → (r : Option ℕ) → Counts P r → Counts Q r
counts-by P Q f g (Some n) p = f n p
counts-by P Q f g None none = λ n q. none n (g n q)

module _ (page : List ℕ) where
  -- the word that begins k bytes before the end
  abbrev pub word : ℕ → ℕ
  word k = from_bytes (take 8 (last_bytes k page))

  trails-long : (n : ℕ) → Trails page n → trailer_length n ≤ length page
  trails-long n t =
      let k = trailer_length n in
      omega (arith, ap length t.1 ∙ trailer-length n, length-drop (length page - k) page)

  pub too_short : length page < 16 → (n : ℕ) → ¬ Trails page n
  too_short h n t = omega (arith, h, trails-long n t, trailer-least n)

  -- the words of a page that ends in a trailer
  abbrev ShortEnd : ℕ → Type 0
  ShortEnd n = (word 8 ≡ short_ending) × ShortSizes (word 16) n

  abbrev LongEnd : ℕ → Type 0
  LongEnd n = (word 8 ≡ long_ending) × (24 ≤ length page) × LongSizes (word 24) (word 16) n

  trails-ends : (n : ℕ) → Trails page n → ShortEnd n ⊎ LongEnd n
  trails-ends n t = by-range (λ s k. last_bytes k page ≡ s → k ≤ length page → ShortEnd n ⊎ LongEnd n) n short long t.1 (trails-long n t)
    where
      -- the word x that k of the last j bytes s begin with
      there : (j k x : ℕ) (s : List ℕ) → k ≤ j → last_bytes j page ≡ s → take 8 (last_bytes k s) ≡ to_bytes 8 x → x < 18446744073709551616 → word k ≡ x
      there j k x s h e d less =
          ap (λ (l : List ℕ). from_bytes (take 8 l)) (sym (last-last k j page h) ∙ ap (last_bytes k) e) ∙ ap from_bytes d ∙ bytes_back 8 x less

      short : n ≤ short_most → last_bytes 16 page ≡ short_trailer n → 16 ≤ length page → ShortEnd n ⊎ LongEnd n
      short few e _ =
          let w = e ∙ short-words n few in
          let sizes = 8 * n + 4294967296 * n in
          inl (
            there 16 8 short_ending _ (omega arith) w refl (omega arith),
            (few, there 16 16 sizes _ (omega arith) w refl (omega (arith, few))),
          )

      long : short_most < n → last_bytes 24 page ≡ long_trailer n → 24 ≤ length page → ShortEnd n ⊎ LongEnd n
      long many e room =
          let w = e ∙ long-words n in
          let most = t.0 in
          inr (
            there 24 8 long_ending _ (omega arith) w refl (omega arith),
            room,
            (
              many,
              most,
              there 24 24 (8 * n) _ (omega arith) w refl (omega (arith, most)),
              there 24 16 n _ (omega arith) w refl (omega (arith, most)),
            ),
          )

  -- ---- the words, cut off the end one by one: behind `whole`, of which `front` is left, the last eight bytes

  abbrev pub Cut : (whole front chunk : List ℕ) → Type 0
  Cut whole front chunk =
      (front ≡ take (length whole - 8) whole) × (chunk ≡ drop (length whole - 8) whole) × (length front + 8 ≡ length whole)

  module _ {whole front chunk : List ℕ} (k : ℕ) (w : whole ≡ take (length page - k) page) (room : k ≤ length page) (c : Cut whole front chunk) where
    all : length whole ≡ length page - k
    all = ap length w ∙ length-take-le (length page - k) page (omega arith)

    place : length whole - 8 ≡ length page - (k + 8)
    place = omega (arith, all)

    pub front-left : front ≡ take (length page - (k + 8)) page
    front-left =
        c.0 ∙ ap₂ (λ (i : ℕ) (l : List ℕ). take i l) place w ∙ take-take (length page - (k + 8)) (length page - k) page (omega arith)

    pub word-cut : from_le_bytes w64 chunk ≡ word (k + 8)
    word-cut = sym (eight_bytes chunk (ap length is ∙ length-take-le 8 (last_bytes (k + 8) page) (omega (arith, behind)))) ∙ ap from_bytes is
      where
        n : ℕ
        n = length page - (k + 8)

        behind : length (drop n page) ≡ k + 8
        behind = omega (arith, length-drop n page, all, c.2)

        is : chunk ≡ take 8 (last_bytes (k + 8) page)
        is =
            let e : length page - k ≡ n + 8 = omega (arith, all, c.2) in
            c.1 ∙ ap₂ (λ (i : ℕ) (l : List ℕ). drop i l) place w ∙ ap (λ (i : ℕ). drop n (take i page)) e ∙ drop-take n 8 page

  -- and back
  module _ (f : AllBytes page) where
    last : 8 ≤ length page → last_bytes 8 page ≡ to_bytes 8 (word 8)
    last h =
        let at = length page - 8 in
        sym (take_all 8 (last_bytes 8 page) (omega (arith, length-drop at page))) ∙ sym (bytes-at 8 at page f (omega (arith, h)))

    next : (k : ℕ) → k + 8 ≤ length page → last_bytes (k + 8) page ≡ to_bytes 8 (word (k + 8)) ++ last_bytes k page
    next k h =
        sym (take-append-drop 8 (last_bytes (k + 8) page))
        ∙ ap₂ ◌++◌ (sym (bytes-at 8 (length page - (k + 8)) page f (omega (arith, h))))
        (drop-drop 8 (length page - (k + 8)) page ∙ ap (λ (i : ℕ). drop i page) place)
      where
        place : length page - (k + 8) + 8 ≡ length page - k
        place = omega (arith, h)

    two : 16 ≤ length page → last_bytes 16 page ≡ to_bytes 8 (word 16) ++ to_bytes 8 (word 8)
    two h = next 8 h ∙ ap (λ (s : List ℕ). to_bytes 8 (word 16) ++ s) (last (omega (arith, h)))

    short-trails : 16 ≤ length page → (n : ℕ) → ShortSizes (word 16) n → word 8 ≡ short_ending → Trails page n
    unfolding trailer trailer_length
    short-trails h n s d = (
      omega (arith, s.0),
      rw (le-leb n short_most s.0) (two h ∙ ap₂ (λ (x y : ℕ). to_bytes 8 x ++ to_bytes 8 y) s.1 d ∙ sym (short-words n s.0)),
    )

    long-trails : 24 ≤ length page → (n : ℕ) → LongSizes (word 24) (word 16) n → word 8 ≡ long_ending → Trails page n
    unfolding trailer trailer_length
    long-trails h n s d = (
      s.1,
      rw (lt-leb n short_most s.0)
          (next 16 h ∙ ap₂ (λ (x : ℕ) (l : List ℕ). to_bytes 8 x ++ l) s.2
          (two (omega (arith, h)) ∙ ap₂ (λ (x y : ℕ). to_bytes 8 x ++ to_bytes 8 y) s.3 d) ∙ sym (long-words n)),
    )

  -- what `counted` tells by the words that it reads
  module _ (ending : ℕ) (last : ending ≡ word 8) where
    pub other-letters : ending ≢ short_ending → ending ≢ long_ending → (n : ℕ) → ¬ Trails page n
    other-letters a b n t = go (trails-ends n t)
      where
        go : ShortEnd n ⊎ LongEnd n → ⊥
        go (inl e) = a (last ∙ e.0)
        go (inr e) = b (last ∙ e.0)

    pub too-short-for-long : ending ≡ long_ending → length page < 24 → (n : ℕ) → ¬ Trails page n
    too-short-for-long d h n t = go (trails-ends n t)
      where
        go : ShortEnd n ⊎ LongEnd n → ⊥
        go (inl e) = omega (arith, d, last, e.0)
        go (inr e) = omega (arith, h, e.1)

    module _ (f : AllBytes page) (sizes : ℕ) (middle : sizes ≡ word 16) (r : Option ℕ) where
      pub short-told : ending ≡ short_ending → 16 ≤ length page → Counts (ShortSizes sizes) r → Counts (Trails page) r
      short-told d h c =
          counts-by (ShortSizes (word 16)) (Trails page) (λ n s. short-trails f h n s (sym last ∙ d)) (λ n t. go n (trails-ends n t)) r
          (subst (λ (x : ℕ). Counts (ShortSizes x) r) middle c)
        where
          go : (n : ℕ) → ShortEnd n ⊎ LongEnd n → ShortSizes (word 16) n
          go n (inl e) = e.1
          go n (inr e) = absurd (let z : ⊥ = omega (arith, d, last, e.0) in z)

      pub long-told : (offset : ℕ) → offset ≡ word 24 → ending ≡ long_ending → 24 ≤ length page
          → Counts (LongSizes offset sizes) r → Counts (Trails page) r
      long-told offset first d h c =
          counts-by (LongSizes (word 24) (word 16)) (Trails page) (λ n s. long-trails f h n s (sym last ∙ d)) (λ n t. go n (trails-ends n t)) r
          (subst (λ (x : ℕ). Counts (LongSizes x (word 16)) r) first (subst (λ (x : ℕ). Counts (LongSizes offset x) r) middle c))
        where
          go : (n : ℕ) → ShortEnd n ⊎ LongEnd n → LongSizes (word 24) (word 16) n
          go n (inl e) = absurd (let z : ⊥ = omega (arith, d, last, e.0) in z)
          go n (inr e) = e.2
