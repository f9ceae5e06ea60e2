-- Numbers taken together bit by bit make 0 exactly where each of them is 0.
-- Assumes nothing.
use Prim.Native.Nat.{ℕ, ◌+◌, ◌-◌, ◌<◌}
use mathlib.Core.Bool.{true≢false}
use mathlib.Core.List.{List}
use mathlib.Core.Path.{◌≡◌, refl, sym, ap, ◌∙◌, subst}
use native.Mathlib.Omega.{arith}
use lib.Bits.{bit_or, bit_xor, or_add_and, xor_add_and, xor_self, and_le_l, and_le_r}
use lib.Dec.{eqb}
use lib.ListN.{get_or, take, drop}
use lib.Seq.{get_or-take, get_or-drop}
use borrow.Author.Count.{below_more}
use borrow.Author.Tests.{eqb-true, eq-eqb, ne_eqb}
use Rattle.head.specs.Bounds.{none_mark}
use Rattle.model.proofs.Cases.{split}
use Rattle.list.specs.Inspect.{all_from}
use Rattle.list.proofs.Walked.{all_at, all_of}
use Rattle.inspect.specs.Tests.{is_at}

-- ---- the loop that takes them together

-- `any` is 0 exactly where what g makes of each of a list's first k numbers is
pub record Together (g : ℕ → ℕ) (xs : List ℕ) (k any : ℕ) : Type 0 where
  pub each : any ≡ 0 → (j : ℕ) → j < k → g (get_or xs j 0) ≡ 0
  pub none : ((j : ℕ) → j < k → g (get_or xs j 0) ≡ 0) → any ≡ 0

pub together_more : {g : ℕ → ℕ} {xs : List ℕ} {k any : ℕ} → Together g xs k any → Together g xs (k + 1) (bit_or any (g (get_or xs k 0)))
together_more {g} {xs} {k} {any} v =
    let w : ℕ = g (get_or xs k 0) in
    let a = or_add_and any w in
    let l = and_le_l any w in
    let r = and_le_r any w in
    record {
      each = λ e. below_more (λ (j : ℕ). g (get_or xs j 0) ≡ 0) k (v.each (omega arith)) (omega arith);
      none = λ h. let x = v.none (λ j l. h j (omega arith)) in let y : w ≡ 0 = h k (omega arith) in omega arith;
    }

-- where g makes 0 of x alone, and the list is the part of l from place i on
together_end : {g : ℕ → ℕ} (x : ℕ) (l xs : List ℕ) (i : ℕ) {k any : ℕ} → ((y : ℕ) → g y ≡ 0 → y ≡ x) → g x ≡ 0 → ((j : ℕ) → j < k → get_or xs j 0 ≡ get_or l (i + j) 0)
    → Together g xs k any → eqb any 0 ≡ all_from k i (is_at x l)
unfolding is_at
together_end {g} x l xs i {k} {any} only here part v =
    split (all_from k i (is_at x l))
    (λ y.
    eq-eqb any 0
    (v.none (λ j h. ap g (part j h ∙ eqb-true (get_or l (i + j) 0) x (all_at k i (is_at x l) y (i + j) (omega arith) (omega arith))) ∙ here))
    ∙ sym y)
    (λ y.
    ne_eqb any 0
    (λ q. true≢false
    (sym (all_of k i (is_at x l) (λ j lo hi.
    let h : j - i < k = omega arith in
    let z : i + (j - i) ≡ j = omega arith in
    eq-eqb (get_or l j 0) x (sym (part (j - i) h ∙ ap (λ (p : ℕ). get_or l p 0) z) ∙ only (get_or xs (j - i) 0) (v.each q (j - i) h))))
    ∙ y))
    ∙ sym y)

-- ---- what is taken together

-- a number as it is
abbrev pub same : ℕ → ℕ
same x = x

-- the bits in which it differs from none
abbrev pub unlike : ℕ → ℕ
unlike x = bit_xor x none_mark

unlike_none : (x : ℕ) → bit_xor x none_mark ≡ 0 → x ≡ none_mark
unlike_none x e = omega (arith, xor_add_and x none_mark, and_le_l x none_mark, and_le_r x none_mark)

-- all of a list's first n numbers are 0; all from a place on up to n are none
pub zeros_end : (l : List ℕ) (n : ℕ) {k any : ℕ} → k ≡ n → Together same (take n l) k any → eqb any 0 ≡ all_from n 0 (is_at 0 l)
zeros_end l n {k} {any} e w =
    let v = subst (λ (j : ℕ). Together same (take n l) j any) e w in
    together_end 0 l (take n l) 0 (λ y e. e) refl (λ j h. let z : j ≡ 0 + j = omega arith in get_or-take n l j 0 h ∙ ap (λ (p : ℕ). get_or l p 0) z) v

pub nones_end : (l : List ℕ) (i n : ℕ) {k any : ℕ} → k ≡ n - i → Together unlike (take (n - i) (drop i l)) k any → eqb any 0 ≡ all_from (n - i) i (is_at none_mark l)
nones_end l i n {k} {any} e w =
    let v = subst (λ (j : ℕ). Together unlike (take (n - i) (drop i l)) j any) e w in
    together_end none_mark l (take (n - i) (drop i l)) i unlike_none (xor_self none_mark) (λ j h. get_or-take (n - i) (drop i l) j 0 h ∙ get_or-drop i l j 0) v
