-- The NaN that a list's operands give is the one that the rule names: the fold over the list ends
-- with the first of its sort, or with the greatest.
use mathlib.Core.Path.{◌≡◌, refl, sym, ap, ap₂, ◌∙◌, subst}
use mathlib.Core.Logic.{◌⊎◌, inl, inr}
use mathlib.Core.Bool.{Bool, true, false, not, ◌&&◌, ◌||◌, cond, true≢false}
use mathlib.Core.List.{List, [], ◌∷◌}
use Prim.Native.Nat.{ℕ, zero, suc, ◌<◌}
use native.Mathlib.Omega.{arith}
use lib.Dec.{T, ltb, eqb, ltb→lt, eqb→eq}
use borrow.Author.Tests.{ltb-false, eqb-false}
use Rattle.totals_spec.specs.Basics.{any}
use Rattle.totals_spec.specs.formats.Settings.{Settings, signaling_first, first_operand}
use Rattle.totals_spec.specs.formats.Settings.{larger_significand, propagation_of}
use Rattle.totals_spec.specs.formats.Decode.{Unpacked, zero_of, finite, infinity, nan, is_nan}
use Rattle.totals_spec.specs.formats.Decode.{is_signaling}
use Rattle.totals_spec.specs.sums.Nan.{larger, stays_nan, chosen_of, quiet, by_rule, default_nan_of}
use Rattle.totals_spec.specs.sums.Nan.{select_all}
use Rattle.promises.specs.Special.{Stands, FirstOf, NoneOf, AllOf, NoGreater, Selected, Selected-one}

-- ---- one of its sort

first-one : {A : Type 0} (t : A → Bool) (x y : A) (l : List A) → FirstOf t x l → FirstOf t y l → x ≡ y
first-one t x y [] h k = absurd h
first-one t x y (z ∷ l) (inl h) (inl k) = sym h.1 ∙ k.1
first-one t x y (z ∷ l) (inl h) (inr k) = absurd (true≢false (sym h.0 ∙ k.0))
first-one t x y (z ∷ l) (inr h) (inl k) = absurd (true≢false (sym k.0 ∙ h.0))
first-one t x y (z ∷ l) (inr h) (inr k) = first-one t x y l h.1 k.1

first-passes : {A : Type 0} (t : A → Bool) (x : A) (l : List A) → FirstOf t x l → NoneOf t l → ⊥
first-passes t x [] h k = h
first-passes t x (z ∷ l) (inl h) k = true≢false (sym h.0 ∙ k.0)
first-passes t x (z ∷ l) (inr h) k = first-passes t x l h.1 k.1

at-place : {A : Type 0} (P : A → Type 0) (x : A) (l : List A) → Stands x l → AllOf P l → P x
at-place P x [] h k = absurd h
at-place P x (y ∷ l) (inl e) k = subst P e k.0
at-place P x (y ∷ l) (inr h) k = at-place P x l h k.1

-- the quiet form, of a value that is a NaN
abbrev stilled : Unpacked → Unpacked
stilled (nan s g m) = nan s false m
stilled (zero_of s) = zero_of s
stilled (finite s k m) = finite s k m
stilled (infinity s) = infinity s

both-ways : (s g : Bool) (m : ℕ) (t h : Bool) (n : ℕ) → NoGreater s g m (nan t h n) → NoGreater t h n (nan s g m) → nan s false m ≡ nan t false n
both-ways s g m t h n (inl a) (inl b) = absurd (true≢false (sym a.0 ∙ b.1))
both-ways s g m t h n (inl a) (inr b) = absurd (true≢false (sym a.0 ∙ sym b.0 ∙ a.1))
both-ways s g m t h n (inr a) (inl b) = absurd (true≢false (sym b.0 ∙ sym a.0 ∙ b.1))
both-ways s g m t h n (inr (e, inl a)) (inr (i, inl b)) = absurd (let z : ⊥ = omega (arith, a, b) in z)
both-ways s g m t h n (inr (e, inl a)) (inr (i, inr b)) = absurd (let z : ⊥ = omega (arith, a, b.0) in z)
both-ways s g m t h n (inr (e, inr a)) (inr (i, inl b)) = absurd (let z : ⊥ = omega (arith, a.0, b) in z)
both-ways s g m t h n (inr (e, inr (a, c))) (inr (i, inr (b, d))) = ap₂ (λ (z : Bool) (k : ℕ). nan z false k) (signs s t c d) b
  where
    signs : (s t : Bool) → ((s ≡ false) ⊎ (t ≡ true)) → ((t ≡ false) ⊎ (s ≡ true)) → s ≡ t
    signs true true c d = refl
    signs false false c d = refl
    signs true false (inl c) d = absurd (true≢false c)
    signs true false (inr c) d = absurd (true≢false (sym c))
    signs false true c (inl d) = absurd (true≢false d)
    signs false true c (inr d) = absurd (true≢false (sym d))

pub selected-one : Selected-one
selected-one zero c l v w (s, m, e, inl h) (t, n, i, inl k) = e ∙ ap stilled (first-one is_signaling (nan s true m) (nan t true n) l h k) ∙ sym i
selected-one zero c l v w (s, m, e, inl h) (t, n, i, inr k) = absurd (first-passes is_signaling (nan s true m) l h k.0)
selected-one zero c l v w (s, m, e, inr h) (t, n, i, inl k) = absurd (first-passes is_signaling (nan t true n) l k h.0)
selected-one zero c l v w (s, m, e, inr h) (t, n, i, inr k) = e ∙ first-one is_nan (nan s false m) (nan t false n) l h.1 k.1 ∙ sym i
selected-one (suc zero) c l v w (s, g, m, e, h) (t, k, n, i, j) = e ∙ ap stilled (first-one is_nan (nan s g m) (nan t k n) l h j) ∙ sym i
selected-one (suc (suc zero)) c l v w (s, g, m, e, h, a) (t, k, n, i, j, b) =
    e ∙ both-ways s g m t k n (at-place (NoGreater s g m) (nan t k n) l j a) (at-place (NoGreater t k n) (nan s g m) l h b) ∙ sym i
selected-one (suc (suc (suc r))) c l v w h k = h ∙ sym k

-- ---- rule 1

abbrev First : Unpacked → List Unpacked → Unpacked → Type 0
First x l v = (s : Bool) × (g : Bool) × (m : ℕ) × (v ≡ nan s g m) × FirstOf is_nan (nan s g m) (x ∷ l)

first-stays : (s g : Bool) (m : ℕ) (l : List Unpacked) → chosen_of first_operand (nan s g m) l ≡ nan s g m
first-stays s g m [] = refl
first-stays s g m (zero_of t ∷ l) = first-stays s g m l
first-stays s g m (finite t k n ∷ l) = first-stays s g m l
first-stays s g m (infinity t ∷ l) = first-stays s g m l
first-stays s g m (nan t h n ∷ l) = first-stays s g m l

past : (x y : Unpacked) (l : List Unpacked) → is_nan x ≡ false → (v : Unpacked) → First y l v → First x (y ∷ l) v
past x y l e v h = (h.0, h.1, h.2, h.3, inr (e, h.4))

first-found : (x : Unpacked) (l : List Unpacked) → any is_nan (x ∷ l) ≡ true → First x l (chosen_of first_operand x l)
first-found (nan s g m) l e = (s, g, m, first-stays s g m l, inl (refl, refl))
first-found (zero_of s) [] e = absurd (true≢false (sym e))
first-found (finite s k m) [] e = absurd (true≢false (sym e))
first-found (infinity s) [] e = absurd (true≢false (sym e))
first-found (zero_of s) (y ∷ l) e = past (zero_of s) y l refl _ (first-found y l e)
first-found (finite s k m) (y ∷ l) e = past (finite s k m) y l refl _ (first-found y l e)
first-found (infinity s) (y ∷ l) e = past (infinity s) y l refl _ (first-found y l e)

-- ---- rule 0

abbrev Signals : Unpacked → List Unpacked → Unpacked → Type 0
Signals x l v = (s : Bool) × (g : Bool) × (m : ℕ) × (v ≡ nan s g m)
    × (((g ≡ true) × FirstOf is_signaling (nan s true m) (x ∷ l))
    ⊎ ((g ≡ false) × NoneOf is_signaling (x ∷ l) × FirstOf is_nan (nan s false m) (x ∷ l)))

signals-stays : (s : Bool) (m : ℕ) (l : List Unpacked) → chosen_of signaling_first (nan s true m) l ≡ nan s true m
signals-stays s m [] = refl
signals-stays s m (zero_of t ∷ l) = signals-stays s m l
signals-stays s m (finite t k n ∷ l) = signals-stays s m l
signals-stays s m (infinity t ∷ l) = signals-stays s m l
signals-stays s m (nan t h n ∷ l) = signals-stays s m l

-- a number in front
signals-past : (x y : Unpacked) (l : List Unpacked) → is_nan x ≡ false → is_signaling x ≡ false → (v : Unpacked) → Signals y l v → Signals x (y ∷ l) v
signals-past x y l e q v (s, g, m, i, inl h) = (s, g, m, i, inl (h.0, inr (q, h.1)))
signals-past x y l e q v (s, g, m, i, inr h) = (s, g, m, i, inr (h.0, (q, h.1), inr (e, h.2)))

-- a quiet NaN in front, and behind it one that is not signaling
signals-over : (t : Bool) (n : ℕ) (y : Unpacked) (l : List Unpacked) → is_signaling y ≡ false → (v : Unpacked)
    → Signals (nan t false n) l v → Signals (nan t false n) (y ∷ l) v
signals-over t n y l q v (s, g, m, i, inl (j, inl h)) = absurd (true≢false (sym h.0))
signals-over t n y l q v (s, g, m, i, inl (j, inr h)) = (s, g, m, i, inl (j, inr (refl, inr (q, h.1))))
signals-over t n y l q v (s, g, m, i, inr (j, k, inl h)) = (s, g, m, i, inr (j, (refl, (q, k.1)), inl h))
signals-over t n y l q v (s, g, m, i, inr (j, k, inr h)) = absurd (true≢false h.0)

signals-found : (x : Unpacked) (l : List Unpacked) → any is_nan (x ∷ l) ≡ true → Signals x l (chosen_of signaling_first x l)
signals-found (nan s true m) l e = (s, true, m, signals-stays s m l, inl (refl, inl (refl, refl)))
signals-found (nan s false m) [] e = (s, false, m, refl, inr (refl, (refl, tt), inl (refl, refl)))
signals-found (nan s false m) (zero_of t ∷ l) e = signals-over s m (zero_of t) l refl _ (signals-found (nan s false m) l refl)
signals-found (nan s false m) (finite t k n ∷ l) e = signals-over s m (finite t k n) l refl _ (signals-found (nan s false m) l refl)
signals-found (nan s false m) (infinity t ∷ l) e = signals-over s m (infinity t) l refl _ (signals-found (nan s false m) l refl)
signals-found (nan s false m) (nan t false n ∷ l) e = signals-over s m (nan t false n) l refl _ (signals-found (nan s false m) l refl)
signals-found (nan s false m) (nan t true n ∷ l) e = (t, true, n, signals-stays t n l, inl (refl, inr (refl, inl (refl, refl))))
signals-found (zero_of s) [] e = absurd (true≢false (sym e))
signals-found (finite s k m) [] e = absurd (true≢false (sym e))
signals-found (infinity s) [] e = absurd (true≢false (sym e))
signals-found (zero_of s) (y ∷ l) e = signals-past (zero_of s) y l refl refl _ (signals-found y l e)
signals-found (finite s k m) (y ∷ l) e = signals-past (finite s k m) y l refl refl _ (signals-found y l e)
signals-found (infinity s) (y ∷ l) e = signals-past (infinity s) y l refl refl _ (signals-found y l e)

-- ---- rule 2

abbrev Greatest : Unpacked → List Unpacked → Unpacked → Type 0
Greatest x l v = (s : Bool) × (g : Bool) × (m : ℕ) × (v ≡ nan s g m) × Stands (nan s g m) (x ∷ l) × AllOf (NoGreater s g m) (x ∷ l)

no-greater-self : (s g : Bool) (m : ℕ) → NoGreater s g m (nan s g m)
no-greater-self true g m = inr (refl, inr (refl, inr refl))
no-greater-self false g m = inr (refl, inr (refl, inl refl))

-- z below y, y below x
no-greater-over : (s g : Bool) (m : ℕ) (t h : Bool) (n : ℕ) (u k : Bool) (o : ℕ)
    → NoGreater s g m (nan t h n) → NoGreater t h n (nan u k o) → NoGreater s g m (nan u k o)
no-greater-over s g m t h n u k o (inl a) (inl b) = absurd (true≢false (sym a.0 ∙ b.1))
no-greater-over s g m t h n u k o (inl a) (inr b) = inl (b.0 ∙ a.0, a.1)
no-greater-over s g m t h n u k o (inr a) (inl b) = inl (b.0, sym a.0 ∙ b.1)
no-greater-over s g m t h n u k o (inr (e, inl a)) (inr (i, inl b)) = inr (i ∙ e, inl (omega (arith, a, b)))
no-greater-over s g m t h n u k o (inr (e, inl a)) (inr (i, inr b)) = inr (i ∙ e, inl (omega (arith, a, b.0)))
no-greater-over s g m t h n u k o (inr (e, inr a)) (inr (i, inl b)) = inr (i ∙ e, inl (omega (arith, a.0, b)))
no-greater-over s g m t h n u k o (inr (e, inr (a, c))) (inr (i, inr (b, d))) = inr (i ∙ e, inr (b ∙ a, sign c d))
  where
    sign : ((s ≡ false) ⊎ (t ≡ true)) → ((t ≡ false) ⊎ (u ≡ true)) → (s ≡ false) ⊎ (u ≡ true)
    sign (inl c) d = inl c
    sign (inr c) (inl d) = absurd (true≢false (sym c ∙ d))
    sign (inr c) (inr d) = inr d

-- of two payloads the larger wins, and of one the positive
wins : (s : Bool) (m : ℕ) (t : Bool) (n : ℕ) (g h : Bool) → g ≡ h → larger s m t n ≡ true → NoGreater s g m (nan t h n)
wins s m t n g h e k = go (ltb n m) (eqb m n) (λ z. ltb→lt n m z) (λ z. eqb→eq m n z) k
  where
    go : (a b : Bool) → (T a → n < m) → (T b → m ≡ n) → (a || (b && not s && t)) ≡ true → NoGreater s g m (nan t h n)
    go true b l q i = inr (sym e, inl (l tt))
    go false true l q i = inr (sym e, inr (sym (q tt), sign s t i))
      where
        sign : (s t : Bool) → (not s && t) ≡ true → (s ≡ false) ⊎ (t ≡ true)
        sign false t i = inl refl
        sign true t i = absurd (true≢false (sym i))
    go false false l q i = absurd (true≢false (sym i))

loses : (s : Bool) (m : ℕ) (t : Bool) (n : ℕ) (g h : Bool) → g ≡ h → larger s m t n ≡ false → NoGreater t h n (nan s g m)
loses s m t n g h e k = go (ltb n m) (eqb m n) refl (λ z. eqb→eq m n z) (λ z. z) refl k
  where
    go : (a b : Bool) → ltb n m ≡ a → (T b → m ≡ n) → (eqb m n ≡ b → eqb m n ≡ b) → eqb m n ≡ b → (a || (b && not s && t)) ≡ false
        → NoGreater t h n (nan s g m)
    go true b l q i j o = absurd (true≢false o)
    go false true l q i j o = inr (e, inr (q tt, sign s t o))
      where
        sign : (s t : Bool) → (not s && t) ≡ false → (t ≡ false) ⊎ (s ≡ true)
        sign true t o = inr refl
        sign false false o = inl refl
        sign false true o = absurd (true≢false o)
    go false false l q i j o = inr (e, inl (let a = ltb-false n m l in let b = eqb-false m n j in omega (arith, a, b)))

-- a value that stays in front of another, and what comes of both
keeps : (x y : Unpacked) (l : List Unpacked) (v : Unpacked) → (s : Bool) (g : Bool) (m : ℕ) → x ≡ nan s g m → NoGreater s g m y → Greatest x l v
    → Greatest x (y ∷ l) v
keeps x y l v s g m e h (t, k, n, i, st, (a, b)) = (t, k, n, i, stands st, (a, (below y h, b)))
  where
    stands : Stands (nan t k n) (x ∷ l) → Stands (nan t k n) (x ∷ (y ∷ l))
    stands (inl z) = inl z
    stands (inr z) = inr (inr z)

    front : NoGreater t k n (nan s g m)
    front = subst (NoGreater t k n) e a

    below : (y : Unpacked) → NoGreater s g m y → NoGreater t k n y
    below (zero_of u) z = tt
    below (finite u j o) z = tt
    below (infinity u) z = tt
    below (nan u j o) z = no-greater-over t k n s g m u j o front z

-- a value that gives way to the one behind it
yields : (x y : Unpacked) (l : List Unpacked) (v : Unpacked) → (s : Bool) (g : Bool) (m : ℕ) → y ≡ nan s g m → NoGreater s g m x → Greatest y l v
    → Greatest x (y ∷ l) v
yields x y l v s g m e h (t, k, n, i, st, (a, b)) = (t, k, n, i, inr st, (below x h, (a, b)))
  where
    front : NoGreater t k n (nan s g m)
    front = subst (NoGreater t k n) e a

    below : (x : Unpacked) → NoGreater s g m x → NoGreater t k n x
    below (zero_of u) z = tt
    below (finite u j o) z = tt
    below (infinity u) z = tt
    below (nan u j o) z = no-greater-over t k n s g m u j o front z

-- a number in front
greatest-past : (x y : Unpacked) (l : List Unpacked) (v : Unpacked) → is_nan x ≡ false → Greatest y l v → Greatest x (y ∷ l) v
greatest-past x y l v e (t, k, n, i, st, a) = (t, k, n, i, inr st, (below x e, a))
  where
    below : (x : Unpacked) → is_nan x ≡ false → NoGreater t k n x
    below (zero_of u) z = tt
    below (finite u j o) z = tt
    below (infinity u) z = tt
    below (nan u j o) z = absurd (true≢false z)

greatest-found : (x : Unpacked) (l : List Unpacked) → any is_nan (x ∷ l) ≡ true → Greatest x l (chosen_of larger_significand x l)
greatest-found (nan s g m) [] e = (s, g, m, refl, inl refl, (no-greater-self s g m, tt))
greatest-found (nan s g m) (zero_of t ∷ l) e = keeps (nan s g m) (zero_of t) l _ s g m refl tt (greatest-found (nan s g m) l refl)
greatest-found (nan s g m) (finite t k n ∷ l) e = keeps (nan s g m) (finite t k n) l _ s g m refl tt (greatest-found (nan s g m) l refl)
greatest-found (nan s g m) (infinity t ∷ l) e = keeps (nan s g m) (infinity t) l _ s g m refl tt (greatest-found (nan s g m) l refl)
greatest-found (nan s g m) (nan t h n ∷ l) e =
    go (greatest-found (nan s g m) l refl) (greatest-found (nan t h n) l refl) (stays_nan larger_significand s g m t h n) refl
  where
    stay : (g h : Bool) → stays_nan larger_significand s g m t h n ≡ true → NoGreater s g m (nan t h n)
    stay true true i = wins s m t n true true refl i
    stay false false i = wins s m t n false false refl i
    stay false true i = inl (refl, refl)
    stay true false i = absurd (true≢false (sym i))

    give : (g h : Bool) → stays_nan larger_significand s g m t h n ≡ false → NoGreater t h n (nan s g m)
    give true true i = loses s m t n true true refl i
    give false false i = loses s m t n false false refl i
    give true false i = inl (refl, refl)
    give false true i = absurd (true≢false i)

    go : Greatest (nan s g m) l (chosen_of larger_significand (nan s g m) l) → Greatest (nan t h n) l (chosen_of larger_significand (nan t h n) l)
        → (b : Bool) → stays_nan larger_significand s g m t h n ≡ b
        → Greatest (nan s g m) (nan t h n ∷ l) (chosen_of larger_significand (cond b (nan s g m) (nan t h n)) l)
    go p q true i = keeps (nan s g m) (nan t h n) l _ s g m refl (stay g h i) p
    go p q false i = yields (nan s g m) (nan t h n) l _ t h n refl (give g h i) q
greatest-found (zero_of s) [] e = absurd (true≢false (sym e))
greatest-found (finite s k m) [] e = absurd (true≢false (sym e))
greatest-found (infinity s) [] e = absurd (true≢false (sym e))
greatest-found (zero_of s) (y ∷ l) e = greatest-past (zero_of s) y l _ refl (greatest-found y l e)
greatest-found (finite s k m) (y ∷ l) e = greatest-past (finite s k m) y l _ refl (greatest-found y l e)
greatest-found (infinity s) (y ∷ l) e = greatest-past (infinity s) y l _ refl (greatest-found y l e)

-- ---- THE CHOICE

-- the fold begins with a number in front of the list
pub selected : (c : Settings) (l : List Unpacked) → any is_nan l ≡ true → Selected c.nan_propagation c l (select_all c l)
unfolding select_all default_nan_of
selected c [] e = absurd (true≢false (sym e))
selected c (x ∷ l) e = go c.nan_propagation
  where
    of-signals : (v : Unpacked) → Signals x l v → Selected zero c (x ∷ l) (quiet v)
    of-signals v (s, g, m, i, inl h) = (s, m, ap quiet i, inl h.1)
    of-signals v (s, g, m, i, inr h) = (s, m, ap quiet i, inr (h.1, h.2))

    of-first : (v : Unpacked) → First x l v → Selected (suc zero) c (x ∷ l) (quiet v)
    of-first v (s, g, m, i, h) = (s, g, m, ap quiet i, h)

    of-greatest : (v : Unpacked) → Greatest x l v → Selected (suc (suc zero)) c (x ∷ l) (quiet v)
    of-greatest v (s, g, m, i, h, a) = (s, g, m, ap quiet i, h, a)

    go : (r : ℕ) → Selected r c (x ∷ l) (by_rule (propagation_of r) c (x ∷ l))
    go zero = of-signals _ (signals-found x l e)
    go (suc zero) = of-first _ (first-found x l e)
    go (suc (suc zero)) = of-greatest _ (greatest-found x l e)
    go (suc (suc (suc r))) = refl
