-- No public contract cites this file. What a hash reads of attributes: all eight, each whole, in words of eight bytes.
use Rattle.std.specs.Prelude.{◌≡◌, ℕ, ◌+◌, ◌*◌, Bool, if◌then◌else◌, List, [], ◌∷◌, ◌++◌, length, min, IsTrue, Option, None, Some, is_some}
use Rattle.std.specs.List.{flat_map}
use Rattle.std.proofs.Common.{ap, refl}
use Rattle.std.specs.Cmp.{IsEquivalence, equiv}
use Rattle.std.specs.Hash as fed
use Rattle.net_prefix.specs.declared.addr.Addr.{Addr}
use Rattle.path_attr.specs.declared.path.Segment.{Segment}
use Rattle.path_attr.specs.declared.path.Segment.TheVariants.{Seq as Sequence, Set}
use Rattle.path_attr.specs.declared.attr.Attr.{Attr}
use Rattle.path_attr.specs.Attribute.{origin_rank, same_attr}
use Rattle.path_attr.specs.Sameness.{attr_per, attrs_exact}

abbrev pub word : ℕ → List (List ℕ)
word n = fed.u64 n

-- two numbers of four bytes
abbrev pub pair : ℕ → ℕ → List (List ℕ)
pair low high = word (low + high * 4294967296)

-- a length. From 2147483647 on, where the numbers alone take 8 GB, all are counted alike
abbrev pub counted : ℕ → ℕ
counted count = min count 2147483647

-- the items' numbers, two a word, and the last of an odd number alone
abbrev pub paired : {A : Type 0} → (A → ℕ) → List A → List (List ℕ)
paired number [] = []
paired number (last ∷ []) = pair (number last) 0
paired number (first ∷ second ∷ rest) = pair (number first) (number second) ++ paired number rest

-- how many, with a mark of 0 or 1, and their numbers. Nothing of the empty list: other marks tell of it, and no segment
-- is empty
abbrev pub list_input : {A : Type 0} → ℕ → (A → ℕ) → List A → List (List ℕ)
list_input mark number [] = []
list_input mark number (first ∷ rest) = pair (counted (length (first ∷ rest)) * 2 + mark) (number first)
    ++ paired number rest

-- marked as a sequence or a set
abbrev pub segment_input : Segment → List (List ℕ)
segment_input (Sequence ns) = list_input 0 (λ n. n) ns
segment_input (Set ns) = list_input 1 (λ n. n) ns

-- LOCAL_PREF and ORIGINATOR_ID, where one is there: marks tell which
abbrev pub local_input : Option ℕ → Option Addr → List (List ℕ)
local_input None None = []
local_input (Some pref) None = pair pref 0
local_input None (Some oid) = pair 0 oid.0
local_input (Some pref) (Some oid) = pair pref oid.0

abbrev pub list_mark : {A : Type 0} → List A → ℕ
list_mark [] = 0
list_mark (x ∷ xs) = 1

abbrev pub mark : Bool → ℕ
mark there = if there then 1 else 0

-- ORIGIN, and which of the others are there
abbrev pub marks : Attr → ℕ
marks a =
    mark (is_some a.med) + mark (is_some a.pref) * 2 + mark (is_some a.oid) * 4
    + list_mark a.clusters * 8 + list_mark a.comms * 16 + origin_rank a.origin * 32

abbrev pub or_zero : Option ℕ → ℕ
or_zero None = 0
or_zero (Some n) = n

abbrev pub attr_input : Attr → List (List ℕ)
attr_input a =
    pair (counted (length a.path)) (marks a) ++ pair a.next.0 (or_zero a.med) ++ local_input a.pref a.oid
    ++ flat_map segment_input a.path ++ list_input 0 (λ (c : Addr). c.0) a.clusters ++ list_input 0 (λ n. n) a.comms

-- LAWS

pub attr_equiv : IsEquivalence same_attr
attr_equiv = equiv attr_per (λ a. (attrs_exact a a).1 refl)

-- attributes that are the same are read alike
pub attr_alike : (a b : Attr) → IsTrue (same_attr a b) → attr_input a ≡ attr_input b
attr_alike a b h = ap attr_input ((attrs_exact a b).0 h)
