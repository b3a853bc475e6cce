-- A rearrangement of a list gathers to the same (`Basics` of specs/), and its image under a
-- function is a rearrangement of the image. Rearrangements are the library's: `List.Permᴰ` holds
-- the steps of one, and `Perm` only says that there are such steps.
use mathlib.Core.Path.{◌≡◌, refl, sym, ap, ap₂, ◌∙◌}
use mathlib.Core.List.{List, [], ◌∷◌, Permᴰ, map}
use mathlib.Core.List.Permᴰ
use Prim.Native.Nat.{ℕ, max, suc, ◌+◌, ◌<◌}
use native.Mathlib.Omega.{arith}
use mathlib.Core.Bool.{Bool, true, false, ◌||◌}
use native.Mathlib.Nat.{add_left_comm, add_left_cancel, zero-add, not-suc-le-zero}
use lib.ListN.{length}
use mathlib.Core.Option.{Option, none, some}
use lib.Dec.{T}
use Rattle.totals_spec.specs.Basics.{total, greatest, any, keep, picked, flag}
use Rattle.totals_spec.specs.order.Rearranged.{count, AsOften}

-- one law for every gathering: g takes each element in by an operation for which the order of two
-- does not matter
module _ {A B : Type 0} (op : B → B → B) (comm : (x y z : B) → op x (op y z) ≡ op y (op x z)) (f : A → B) (g : List A → B)
    (step : (x : A) (l : List A) → g (x ∷ l) ≡ op (f x) (g l)) where
  pub gathered : {l₁ l₂ : List A} → Permᴰ l₁ l₂ → g l₁ ≡ g l₂
  gathered Permᴰ.nil = refl
  gathered (Permᴰ.cons {a = a} {b = b} {l₁ = l₁} {l₂ = l₂} e d) = step a l₁ ∙ ap₂ op (ap f e) (gathered d) ∙ sym (step b l₂)
  gathered (Permᴰ.swap {a = a} {b = b} {a' = a'} {b' = b'} {l = l} e₁ e₂) =
      (step a (b ∷ l) ∙ ap (op (f a)) (step b l))
      ∙ comm (f a) (f b) (g l)
      ∙ ap₂ (λ x y. op x (op y (g l))) (ap f e₂) (ap f e₁)
      ∙ sym (step a' (b' ∷ l) ∙ ap (op (f a')) (step b' l))
  gathered (Permᴰ.trans d₁ d₂) = gathered d₁ ∙ gathered d₂

max_left_comm : (x y z : ℕ) → max x (max y z) ≡ max y (max x z)
max_left_comm x y z = omega arith

or-left-comm : (x y z : Bool) → (x || (y || z)) ≡ (y || (x || z))
or-left-comm true true z = refl
or-left-comm true false z = refl
or-left-comm false true z = refl
or-left-comm false false z = refl

module _ {A : Type 0} where
  pub total-perm : (f : A → ℕ) {l₁ l₂ : List A} → Permᴰ l₁ l₂ → total f l₁ ≡ total f l₂
  total-perm f d = gathered ◌+◌ add_left_comm f (total f) (λ x l. refl) d

  pub greatest-perm : (f : A → ℕ) {l₁ l₂ : List A} → Permᴰ l₁ l₂ → greatest f l₁ ≡ greatest f l₂
  greatest-perm f d = gathered max max_left_comm f (greatest f) (λ x l. refl) d

  pub any-perm : (f : A → Bool) {l₁ l₂ : List A} → Permᴰ l₁ l₂ → any f l₁ ≡ any f l₂
  any-perm f d = gathered ◌||◌ or-left-comm f (any f) (λ x l. refl) d

  pub length-perm : {l₁ l₂ : List A} → Permᴰ l₁ l₂ → length l₁ ≡ length l₂
  length-perm Permᴰ.nil = refl
  length-perm (Permᴰ.cons e d) = ap suc (length-perm d)
  length-perm (Permᴰ.swap e₁ e₂) = refl
  length-perm (Permᴰ.trans d₁ d₂) = length-perm d₁ ∙ length-perm d₂

-- what a function keeps, put before a list
keep-cons : {A : Type 0} {o₁ o₂ : Option A} {l₁ l₂ : List A} → o₁ ≡ o₂ → Permᴰ l₁ l₂ → Permᴰ (keep o₁ l₁) (keep o₂ l₂)
keep-cons {o₁} {l₁} {l₂} e d = rw (← e) (go o₁)
  where
    go : (o : Option _) → Permᴰ (keep o l₁) (keep o l₂)
    go none = d
    go (some a) = Permᴰ.cons refl d

keep-swap : {A : Type 0} (o₁ o₂ : Option A) (l : List A) → Permᴰ (keep o₁ (keep o₂ l)) (keep o₂ (keep o₁ l))
keep-swap none none l = Permᴰ.refl l
keep-swap none (some b) l = Permᴰ.refl (b ∷ l)
keep-swap (some a) none l = Permᴰ.refl (a ∷ l)
keep-swap (some a) (some b) l = Permᴰ.swap refl refl

module _ {A B : Type 0} where
  pub picked-perm : (f : A → Option B) {l₁ l₂ : List A} → Permᴰ l₁ l₂ → Permᴰ (picked f l₁) (picked f l₂)
  picked-perm f Permᴰ.nil = Permᴰ.nil
  picked-perm f (Permᴰ.cons e d) = keep-cons (ap f e) (picked-perm f d)
  picked-perm f (Permᴰ.swap {a = a} {b = b} {l = l} e₁ e₂) =
      Permᴰ.trans (keep-swap (f a) (f b) (picked f l)) (keep-cons (ap f e₂) (keep-cons (ap f e₁) (Permᴰ.refl (picked f l))))
  picked-perm f (Permᴰ.trans d₁ d₂) = Permᴰ.trans (picked-perm f d₁) (picked-perm f d₂)

  pub map-perm : (f : A → B) {l₁ l₂ : List A} → Permᴰ l₁ l₂ → Permᴰ (map f l₁) (map f l₂)
  map-perm f Permᴰ.nil = Permᴰ.nil
  map-perm f (Permᴰ.cons e d) = Permᴰ.cons (ap f e) (map-perm f d)
  map-perm f (Permᴰ.swap e₁ e₂) = Permᴰ.swap (ap f e₁) (ap f e₂)
  map-perm f (Permᴰ.trans d₁ d₂) = Permᴰ.trans (map-perm f d₁) (map-perm f d₂)

-- ---- "holds each element as often": two lists with the same counts are rearrangements of each
-- other

module _ {A : Type 0} (same : A → A → Bool) (sound : (x y : A) → T (same x y) → x ≡ y) (alike : (x : A) → T (same x x)) where
  -- an element that is counted stands somewhere
  found : (x : A) (l : List A) → 0 < count same x l → (r : List A) × Permᴰ l (x ∷ r)
  found x [] h = absurd (not-suc-le-zero h)
  found x (y ∷ ys) h = go (same y x) (sound y x) h (found x ys)
    where
      go : (b : Bool) → (T b → y ≡ x) → 0 < flag 1 b + count same x ys → (0 < count same x ys → (r : List A) × Permᴰ ys (x ∷ r))
          → (r : List A) × Permᴰ (y ∷ ys) (x ∷ r)
      go true e h ih = (ys, Permᴰ.cons (e tt) (Permᴰ.refl ys))
      go false e h ih =
          let t = ih (rw zero-add at h) in
          (y ∷ t.0, Permᴰ.trans (Permᴰ.cons refl t.1) (Permᴰ.swap refl refl))

  counted : (x : A) (l : List A) → 0 < count same x (x ∷ l)
  counted x l = go (same x x) (alike x)
    where
      go : (b : Bool) → T b → 0 < flag 1 b + count same x l
      go true t = omega arith
      go false t = elim t [ ]

  pub perm-of-counts : (l₁ l₂ : List A) → AsOften same l₁ l₂ → Permᴰ l₁ l₂
  perm-of-counts [] [] h = Permᴰ.nil
  perm-of-counts [] (y ∷ ys) h = absurd (not-suc-le-zero (rw (← h y) at (counted y ys)))
  perm-of-counts (x ∷ xs) l₂ h =
      let t = found x l₂ (rw (h x) at (counted x xs)) in
      Permᴰ.trans
      (Permᴰ.cons refl (perm-of-counts xs t.0 (λ y. add_left_cancel (flag 1 (same x y)) (h y ∙ total-perm (λ z. flag 1 (same z y)) t.1))))
      (Permᴰ.symm t.1)
