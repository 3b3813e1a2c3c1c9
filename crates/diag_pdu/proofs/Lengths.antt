-- How long frames are, how many frames a message has, and what goes with them: by the eight lengths of frames.
use Rattle.std.proofs.Common.{◌≡◌, ℕ, ◌+◌, ◌-◌, ◌<◌, ◌≤◌, refl, arith}
use Rattle.std.specs.Prelude.{Some}
use Rattle.std.proofs.lemmas.Bool.Decides.{nat_tests}
use Rattle.diag_pdu.specs.declared.length.DataLength.{DataLength}
use Rattle.diag_pdu.specs.declared.length.DataLength.TheVariants.{Dl8, Dl12, Dl16, Dl20, Dl24, Dl32, Dl48, Dl64}
use Rattle.diag_pdu.specs.Length.{in_bytes, length_of, next_length, single_most}
use Rattle.diag_pdu.specs.Cut.{head_size, consecutive_count, gone_with}

pub bytes-bounds : (d : DataLength) → (8 ≤ in_bytes d) × (in_bytes d ≤ 64)
bytes-bounds Dl8 = (omega arith, omega arith)
bytes-bounds Dl12 = (omega arith, omega arith)
bytes-bounds Dl16 = (omega arith, omega arith)
bytes-bounds Dl20 = (omega arith, omega arith)
bytes-bounds Dl24 = (omega arith, omega arith)
bytes-bounds Dl32 = (omega arith, omega arith)
bytes-bounds Dl48 = (omega arith, omega arith)
bytes-bounds Dl64 = (omega arith, omega arith)

pub length-of : (d : DataLength) → length_of (in_bytes d) ≡ Some d
length-of Dl8 = refl
length-of Dl12 = refl
length-of Dl16 = refl
length-of Dl20 = refl
length-of Dl24 = refl
length-of Dl32 = refl
length-of Dl48 = refl
length-of Dl64 = refl

pub next-room : (n : ℕ) → n ≤ 64 → (n ≤ next_length n) × (next_length n ≤ 64)
next-room n few = grind (arith, nat_tests)

-- a frame of the greatest length is full, and none is filled beyond it
pub next-full : (d : DataLength) → next_length (in_bytes d) ≡ in_bytes d
next-full Dl8 = refl
next-full Dl12 = refl
next-full Dl16 = refl
next-full Dl20 = refl
next-full Dl24 = refl
next-full Dl32 = refl
next-full Dl48 = refl
next-full Dl64 = refl

pub next-most : (d : DataLength) (n : ℕ) → n ≤ in_bytes d → next_length n ≤ in_bytes d
next-most Dl8 n few = grind (arith, nat_tests)
next-most Dl12 n few = grind (arith, nat_tests)
next-most Dl16 n few = grind (arith, nat_tests)
next-most Dl20 n few = grind (arith, nat_tests)
next-most Dl24 n few = grind (arith, nat_tests)
next-most Dl32 n few = grind (arith, nat_tests)
next-most Dl48 n few = grind (arith, nat_tests)
next-most Dl64 n few = grind (arith, nat_tests)

pub single-bounds : (d : DataLength) → (7 ≤ single_most d) × (single_most d ≤ 62)
single-bounds Dl8 = (omega arith, omega arith)
single-bounds Dl12 = (omega arith, omega arith)
single-bounds Dl16 = (omega arith, omega arith)
single-bounds Dl20 = (omega arith, omega arith)
single-bounds Dl24 = (omega arith, omega arith)
single-bounds Dl32 = (omega arith, omega arith)
single-bounds Dl48 = (omega arith, omega arith)
single-bounds Dl64 = (omega arith, omega arith)

pub head-bounds : (d : DataLength) (len : ℕ) → (2 ≤ head_size d len) × (head_size d len ≤ in_bytes d - 2)
head-bounds Dl8 len = grind arith
head-bounds Dl12 len = grind arith
head-bounds Dl16 len = grind arith
head-bounds Dl20 len = grind arith
head-bounds Dl24 len = grind arith
head-bounds Dl32 len = grind arith
head-bounds Dl48 len = grind arith
head-bounds Dl64 len = grind arith

pub head-inside : (d : DataLength) (len : ℕ) → single_most d < len → head_size d len < len
head-inside Dl8 len long = let h = head-bounds Dl8 len in omega (arith, h.0, h.1, long)
head-inside Dl12 len long = let h = head-bounds Dl12 len in omega (arith, h.0, h.1, long)
head-inside Dl16 len long = let h = head-bounds Dl16 len in omega (arith, h.0, h.1, long)
head-inside Dl20 len long = let h = head-bounds Dl20 len in omega (arith, h.0, h.1, long)
head-inside Dl24 len long = let h = head-bounds Dl24 len in omega (arith, h.0, h.1, long)
head-inside Dl32 len long = let h = head-bounds Dl32 len in omega (arith, h.0, h.1, long)
head-inside Dl48 len long = let h = head-bounds Dl48 len in omega (arith, h.0, h.1, long)
head-inside Dl64 len long = let h = head-bounds Dl64 len in omega (arith, h.0, h.1, long)

pub gone-none : (d : DataLength) (len : ℕ) → gone_with d len 0 ≡ head_size d len
gone-none Dl8 len = omega arith
gone-none Dl12 len = omega arith
gone-none Dl16 len = omega arith
gone-none Dl20 len = omega arith
gone-none Dl24 len = omega arith
gone-none Dl32 len = omega arith
gone-none Dl48 len = omega arith
gone-none Dl64 len = omega arith

-- a Consecutive more
pub gone-more : (d : DataLength) (len i : ℕ) → gone_with d len (i + 1) ≡ gone_with d len i + (in_bytes d - 1)
gone-more Dl8 len i = omega arith
gone-more Dl12 len i = omega arith
gone-more Dl16 len i = omega arith
gone-more Dl20 len i = omega arith
gone-more Dl24 len i = omega arith
gone-more Dl32 len i = omega arith
gone-more Dl48 len i = omega arith
gone-more Dl64 len i = omega arith

pub count-some : (d : DataLength) (len : ℕ) → single_most d < len → 0 < consecutive_count d len
count-some Dl8 len long = let h = head-inside Dl8 len long in omega (arith, h)
count-some Dl12 len long = let h = head-inside Dl12 len long in omega (arith, h)
count-some Dl16 len long = let h = head-inside Dl16 len long in omega (arith, h)
count-some Dl20 len long = let h = head-inside Dl20 len long in omega (arith, h)
count-some Dl24 len long = let h = head-inside Dl24 len long in omega (arith, h)
count-some Dl32 len long = let h = head-inside Dl32 len long in omega (arith, h)
count-some Dl48 len long = let h = head-inside Dl48 len long in omega (arith, h)
count-some Dl64 len long = let h = head-inside Dl64 len long in omega (arith, h)

-- before the last Consecutive some bytes are left, and after it none
pub count-low : (d : DataLength) (len i : ℕ) → single_most d < len → i < consecutive_count d len → gone_with d len i < len
count-low Dl8 len i long few = let h = head-bounds Dl8 len in omega (arith, h.0, h.1, long, few)
count-low Dl12 len i long few = let h = head-bounds Dl12 len in omega (arith, h.0, h.1, long, few)
count-low Dl16 len i long few = let h = head-bounds Dl16 len in omega (arith, h.0, h.1, long, few)
count-low Dl20 len i long few = let h = head-bounds Dl20 len in omega (arith, h.0, h.1, long, few)
count-low Dl24 len i long few = let h = head-bounds Dl24 len in omega (arith, h.0, h.1, long, few)
count-low Dl32 len i long few = let h = head-bounds Dl32 len in omega (arith, h.0, h.1, long, few)
count-low Dl48 len i long few = let h = head-bounds Dl48 len in omega (arith, h.0, h.1, long, few)
count-low Dl64 len i long few = let h = head-bounds Dl64 len in omega (arith, h.0, h.1, long, few)

pub count-inside : (d : DataLength) (len i : ℕ) → i + 1 < consecutive_count d len → gone_with d len (i + 1) < len
count-inside Dl8 len i few = let h = head-bounds Dl8 len in omega (arith, h.0, h.1, few)
count-inside Dl12 len i few = let h = head-bounds Dl12 len in omega (arith, h.0, h.1, few)
count-inside Dl16 len i few = let h = head-bounds Dl16 len in omega (arith, h.0, h.1, few)
count-inside Dl20 len i few = let h = head-bounds Dl20 len in omega (arith, h.0, h.1, few)
count-inside Dl24 len i few = let h = head-bounds Dl24 len in omega (arith, h.0, h.1, few)
count-inside Dl32 len i few = let h = head-bounds Dl32 len in omega (arith, h.0, h.1, few)
count-inside Dl48 len i few = let h = head-bounds Dl48 len in omega (arith, h.0, h.1, few)
count-inside Dl64 len i few = let h = head-bounds Dl64 len in omega (arith, h.0, h.1, few)

pub count-high : (d : DataLength) (len : ℕ) → len ≤ gone_with d len (consecutive_count d len)
count-high Dl8 len = let h = head-bounds Dl8 len in omega (arith, h.0, h.1)
count-high Dl12 len = let h = head-bounds Dl12 len in omega (arith, h.0, h.1)
count-high Dl16 len = let h = head-bounds Dl16 len in omega (arith, h.0, h.1)
count-high Dl20 len = let h = head-bounds Dl20 len in omega (arith, h.0, h.1)
count-high Dl24 len = let h = head-bounds Dl24 len in omega (arith, h.0, h.1)
count-high Dl32 len = let h = head-bounds Dl32 len in omega (arith, h.0, h.1)
count-high Dl48 len = let h = head-bounds Dl48 len in omega (arith, h.0, h.1)
count-high Dl64 len = let h = head-bounds Dl64 len in omega (arith, h.0, h.1)

pub count-last : (d : DataLength) (len i : ℕ) → i + 1 ≡ consecutive_count d len → len ≤ gone_with d len i + (in_bytes d - 1)
count-last Dl8 len i last = let h = head-bounds Dl8 len in omega (arith, h.0, h.1, last)
count-last Dl12 len i last = let h = head-bounds Dl12 len in omega (arith, h.0, h.1, last)
count-last Dl16 len i last = let h = head-bounds Dl16 len in omega (arith, h.0, h.1, last)
count-last Dl20 len i last = let h = head-bounds Dl20 len in omega (arith, h.0, h.1, last)
count-last Dl24 len i last = let h = head-bounds Dl24 len in omega (arith, h.0, h.1, last)
count-last Dl32 len i last = let h = head-bounds Dl32 len in omega (arith, h.0, h.1, last)
count-last Dl48 len i last = let h = head-bounds Dl48 len in omega (arith, h.0, h.1, last)
count-last Dl64 len i last = let h = head-bounds Dl64 len in omega (arith, h.0, h.1, last)

pub few_consecutives : (d : DataLength) (len : ℕ) → len ≤ 65535 → consecutive_count d len ≤ 9362
few_consecutives Dl8 len few = let h = head-bounds Dl8 len in omega (arith, h.0, h.1, few)
few_consecutives Dl12 len few = let h = head-bounds Dl12 len in omega (arith, h.0, h.1, few)
few_consecutives Dl16 len few = let h = head-bounds Dl16 len in omega (arith, h.0, h.1, few)
few_consecutives Dl20 len few = let h = head-bounds Dl20 len in omega (arith, h.0, h.1, few)
few_consecutives Dl24 len few = let h = head-bounds Dl24 len in omega (arith, h.0, h.1, few)
few_consecutives Dl32 len few = let h = head-bounds Dl32 len in omega (arith, h.0, h.1, few)
few_consecutives Dl48 len few = let h = head-bounds Dl48 len in omega (arith, h.0, h.1, few)
few_consecutives Dl64 len few = let h = head-bounds Dl64 len in omega (arith, h.0, h.1, few)
