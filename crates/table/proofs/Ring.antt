-- The cells around the end: `wrap`, `cell_after`, `ring`; and `past`, how far a search goes. Pure arithmetic and lists.
-- Assumes nothing.
use mathlib.Core.Path.{◌≡◌, refl, sym, ap, ◌∙◌}
use mathlib.Core.Bool.{Bool, true, false, false≢true, ◌||◌, ◌&&◌}
use mathlib.Core.Logic.{◌≢◌, ◌⊎◌, inl, inr, ⊎_elim}
use mathlib.Core.List.{List, [], ◌∷◌, ◌++◌}
use Prim.Native.Nat.{ℕ, zero, suc, ◌+◌, ◌-◌, ◌≤◌, ◌<◌}
use native.Mathlib.Nat.{not-suc-le-zero, le_of_suc-le-suc}
use native.Mathlib.Omega.{arith}
use borrow.Author.Tests.{lt-ltb, le-ltb, ltb-true, ltb-false, eqb-true, eqb-false}
use lib.Dec.{eqb, ltb}
use lib.ListN.{length, get_or, take, drop, length-append, length-drop, get_or-append}
use lib.Seq.{get_or-take, get_or-drop, get_or-append-add, length-take-le}
use Rattle.table.specs.Cells.{wrap, cell_after, ring, past}

-- ---- deciding

pub bool : (b : Bool) → (b ≡ true) ⊎ (b ≡ false)
bool true = inl refl
bool false = inr refl

pub or_right : (a b : Bool) → b ≡ true → (a || b) ≡ true
or_right true b e = refl
or_right false b e = e

pub and_both : (a b : Bool) → (a && b) ≡ true → (a ≡ true) × (b ≡ true)
and_both true b e = (refl, e)
and_both false b e = absurd (false≢true e)

pub lt_or_le : (a b : ℕ) → (a < b) ⊎ (b ≤ a)
lt_or_le a b = ⊎_elim (λ e. inl (ltb-true a b e)) (λ e. inr (ltb-false a b e)) (bool (ltb a b))

pub eq_or_ne : (a b : ℕ) → (a ≡ b) ⊎ (a ≢ b)
eq_or_ne a b = ⊎_elim (λ e. inl (eqb-true a b e)) (λ e. inr (eqb-false a b e)) (bool (eqb a b))

-- ---- around the end

pub wrap_in : (m t : ℕ) → t < m → wrap m t ≡ t
unfolding wrap
wrap_in m t h = rw (lt-ltb t m h)

pub wrap_zero : (m h : ℕ) → h < m → wrap m (h + 0) ≡ h
wrap_zero m h a = wrap_in m (h + 0) (omega arith) ∙ omega arith

pub wrap_out : (m t : ℕ) → m ≤ t → wrap m t ≡ t - m
unfolding wrap
wrap_out m t h = rw (le-ltb t m h)

pub wrap_cases : (m t : ℕ) → ((t < m) × (wrap m t ≡ t)) ⊎ ((m ≤ t) × (wrap m t ≡ t - m))
wrap_cases m t = ⊎_elim (λ h. inl (h, wrap_in m t h)) (λ h. inr (h, wrap_out m t h)) (lt_or_le t m)

pub wrap_lt : (m h k : ℕ) → h < m → k < m → wrap m (h + k) < m
wrap_lt m h k a b = ⊎_elim (λ e. omega arith) (λ e. omega arith) (wrap_cases m (h + k))

pub next_cases : (m i : ℕ) → i < m → ((i + 1 < m) × (cell_after m i ≡ i + 1)) ⊎ ((i + 1 ≡ m) × (cell_after m i ≡ 0))
unfolding cell_after
next_cases m i h = ⊎_elim (λ e. inl e) (λ e. inr (omega arith)) (wrap_cases m (i + 1))

pub next_lt : (m i : ℕ) → i < m → cell_after m i < m
next_lt m i h = ⊎_elim (λ e. omega arith) (λ e. omega arith) (next_cases m i h)

pub next_wrap : (m h k : ℕ) → h < m → k < m → cell_after m (wrap m (h + k)) ≡ wrap m (h + (k + 1))
next_wrap m h k a b =
    ⊎_elim (λ e. ⊎_elim (λ f. ⊎_elim (λ g. omega arith) (λ g. omega arith) n) (λ f. ⊎_elim (λ g. omega arith) (λ g. omega arith) n) w')
    (λ e. ⊎_elim (λ f. ⊎_elim (λ g. omega arith) (λ g. omega arith) n) (λ f. ⊎_elim (λ g. omega arith) (λ g. omega arith) n) w')
    (wrap_cases m (h + k))
  where
    w' : ((h + (k + 1) < m) × (wrap m (h + (k + 1)) ≡ h + (k + 1))) ⊎ ((m ≤ h + (k + 1)) × (wrap m (h + (k + 1)) ≡ h + (k + 1) - m))
    w' = wrap_cases m (h + (k + 1))

    n : ((wrap m (h + k) + 1 < m) × (cell_after m (wrap m (h + k)) ≡ wrap m (h + k) + 1)) ⊎ ((wrap m (h + k) + 1 ≡ m) × (cell_after m (wrap m (h + k)) ≡ 0))
    n = next_cases m (wrap m (h + k)) (wrap_lt m h k a b)

-- every cell is on the way
pub way : (m h e : ℕ) → h < m → e < m → (k : ℕ) × (k < m) × (wrap m (h + k) ≡ e)
way m h e a b = ⊎_elim up down (lt_or_le e h)
  where
    up : e < h → (k : ℕ) × (k < m) × (wrap m (h + k) ≡ e)
    up l = (m - h + e, omega arith, wrap_out m (h + (m - h + e)) (omega arith) ∙ omega arith)

    down : h ≤ e → (k : ℕ) × (k < m) × (wrap m (h + k) ≡ e)
    down l = (e - h, omega arith, wrap_in m (h + (e - h)) (omega arith) ∙ omega arith)

module _ (cells : List ℕ) (m : ℕ) (wide : m ≤ length cells) where
  whole : length (take m cells) ≡ m
  whole = length-take-le m cells wide

  module _ (h : ℕ) (hm : h < m) where
    first : length (drop h (take m cells)) ≡ m - h
    first = length-drop h (take m cells) ∙ ap (λ (x : ℕ). x - h) whole

    pub ring_length : length (ring cells m h) ≡ m
    unfolding ring
    ring_length =
        length-append (drop h (take m cells)) (take h (take m cells))
        ∙ ap (λ (x : ℕ). x + length (take h (take m cells))) first
        ∙ ap (λ (x : ℕ). m - h + x) (length-take-le h (take m cells) (omega (arith, whole)))
        ∙ omega arith

    pub ring_at : (k : ℕ) → k < m → get_or (ring cells m h) k 0 ≡ get_or cells (wrap m (h + k)) 0
    unfolding ring
    ring_at k km =
        ⊎_elim
        (λ e. get_or-append (drop h (take m cells)) (take h (take m cells)) 0 k (omega (arith, first))
        ∙ get_or-drop h (take m cells) k 0 ∙ get_or-take m cells (h + k) 0 e.0 ∙ ap (λ (x : ℕ). get_or cells x 0) (sym e.1))
        (λ e. ap (λ (x : ℕ). get_or (drop h (take m cells) ++ take h (take m cells)) x 0) (omega (arith, first))
        ∙ get_or-append-add (drop h (take m cells)) (take h (take m cells)) (h + k - m) 0
        ∙ get_or-take h (take m cells) (h + k - m) 0 (omega arith) ∙ get_or-take m cells (h + k - m) 0 (omega arith)
        ∙ ap (λ (x : ℕ). get_or cells x 0) (sym e.1))
        (wrap_cases m (h + k))

-- ---- how far a search goes

module _ (f : ℕ → Bool) where
  pub hit : (x : ℕ) (xs : List ℕ) → f x ≡ true → past f (x ∷ xs) ≡ 0
  unfolding past
  hit x xs e = rw (e, past)

  pub miss : (x : ℕ) (xs : List ℕ) → f x ≡ false → past f (x ∷ xs) ≡ suc (past f xs)
  unfolding past
  miss x xs e = rw (e, past)

  pub past_stop : (xs : List ℕ) (d : ℕ) → past f xs < length xs → f (get_or xs (past f xs) d) ≡ true
  past_stop [] d h = absurd (not-suc-le-zero h)
  past_stop (x ∷ xs) d h =
      ⊎_elim (λ e. rw (hit x xs e) e)
      (λ e. rw (miss x xs e) (past_stop xs d (le_of_suc-le-suc (rw (miss x xs e) at h))))
      (bool (f x))

  pub past_before : (xs : List ℕ) (d j : ℕ) → j < past f xs → f (get_or xs j d) ≡ false
  unfolding past
  past_before [] d j h = absurd (not-suc-le-zero h)
  past_before (x ∷ xs) d zero h = ⊎_elim (λ e. absurd (not-suc-le-zero (rw (hit x xs e) at h))) (λ e. e) (bool (f x))
  past_before (x ∷ xs) d (suc j) h =
      ⊎_elim (λ e. absurd (not-suc-le-zero (rw (hit x xs e) at h)))
      (λ e. past_before xs d j (le_of_suc-le-suc (rw (miss x xs e) at h)))
      (bool (f x))

  pub past_lt : (xs : List ℕ) (d j : ℕ) → j < length xs → f (get_or xs j d) ≡ true → past f xs < length xs
  past_lt xs d j h t = ⊎_elim (λ l. absurd (false≢true (sym (past_before xs d j l) ∙ t))) (λ l. omega arith) (lt_or_le j (past f xs))

  -- a search that has passed k cells ends at the next if that one stops it, and else passes it too
  pub ends : (xs : List ℕ) (d k : ℕ) → k ≤ past f xs → f (get_or xs k d) ≡ true → past f xs ≡ k
  ends xs d k h t = ⊎_elim (λ l. absurd (false≢true (sym (past_before xs d k l) ∙ t))) (λ l. omega arith) (lt_or_le k (past f xs))

  pub goes_on : (xs : List ℕ) (d k : ℕ) → k ≤ past f xs → past f xs < length xs → f (get_or xs k d) ≡ false → k < past f xs
  goes_on xs d k h p t = ⊎_elim (λ e. absurd (false≢true (sym t ∙ ap (λ (j : ℕ). f (get_or xs j d)) e ∙ past_stop xs d p))) (λ n. omega arith) (eq_or_ne k (past f xs))
