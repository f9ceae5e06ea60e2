-- The eight bytes of a number that std gives, low byte first, are the definition's.
-- Assumes nothing.
use Rattle.std.proofs.Common.{ℕ, zero, suc, ◌/◌, ◌^◌, ◌%◌, ◌≡◌, ◌∷◌, List, refl, ap, ap₂, sym, ◌∙◌, w64}
use Rattle.std.proofs.Math.Nat.{div-div-eq-div-mul, pow-suc, div-one}
use Rattle.std.specs.Int.{byte_at, bytes_low_first, to_le_bytes}
use Rattle.crc.specs.Crc.{bytes}

byte_is : (i x : ℕ) → byte_at i x ≡ x / 256 ^ i % 256
byte_is zero x = ap (λ n. n % 256) (sym (div-one x))
byte_is (suc i) x = refl

next : (i x : ℕ) → x / 256 ^ suc i ≡ x / 256 ^ i / 256
next i x = ap (λ n. x / n) (pow-suc 256 i) ∙ sym (div-div-eq-div-mul x (256 ^ i) 256)

from : (i k x : ℕ) → bytes_low_first i k x ≡ bytes k (x / 256 ^ i)
unfolding bytes
from i zero x = refl
from i (suc k) x = ap₂ (λ b (bs : List ℕ). b ∷ bs) (byte_is i x) (from (suc i) k x ∙ ap (bytes k) (next i x))

pub bytes_are : (x : ℕ) → to_le_bytes w64 x ≡ bytes 8 x
bytes_are x = from 0 8 x ∙ ap (bytes 8) (div-one x)
