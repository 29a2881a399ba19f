-- The sign of a float's bits.
use Rattle.std.proofs.Common.{◌≡◌, ℕ, ◌-◌, ◌*◌, ◌%◌, ◌<◌, ◌≤◌, ◌++◌, codes, refl, arith, mod-eq_of_lt, le-leb}
use Rattle.std.proofs.lemmas.Bool.{lt-leb}
use borrow.Author.Tests.{lt-ltb}
use lib.Ieee.{Format, binary32, binary64, top, hid, ones}
use Rattle.float_text.specs.Layout.{size_text, number_text}
use Rattle.float_text.specs.Stored.{text_of_bits}
use Rattle.std.specs.Prelude.{Some}

without_sign : (f : Format) (bits : ℕ) → top f ≤ bits → bits < 2 * top f → bits % top f ≡ bits - top f
without_sign binary32 bits p q = omega arith
without_sign binary64 bits p q = omega arith

pub negative_is : (f : Format) (bits sign : ℕ) → sign ≡ top f → sign ≤ bits → bits < 2 * top f → number_text f bits ≡ codes "-" ++ size_text f (bits - sign)
negative_is f bits sign e p q =
    let least : top f ≤ bits = omega arith in
    rw (e, le-leb (top f) bits least, without_sign f bits least q) refl

pub positive_is : (f : Format) (bits sign : ℕ) → sign ≡ top f → bits < sign → number_text f bits ≡ size_text f bits
positive_is f bits sign e q =
    let small : bits < top f = omega arith in
    rw (lt-leb (top f) bits small, mod-eq_of_lt small) refl

pub finite_text : (f : Format) (bits : ℕ) → bits % top f < ones f * hid f → text_of_bits f bits ≡ Some (number_text f bits)
finite_text f bits h = rw (lt-ltb (bits % top f) (ones f * hid f) h) refl
