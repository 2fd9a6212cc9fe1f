-- What reading a text tells.
use Rattle.std.proofs.Common.{◌≡◌, ℕ, Bool, true, List, Option, Some, None, Result, Ok, Err, sym, subst, refl, ◌∙◌}
use Rattle.std.specs.Option.{IsSome, IfSome, IfNone, SomeIff, ok_or}
use Rattle.std.specs.Fmt.{decimal}
use Rattle.std.specs.Result.{IsErrAnd}
use Rattle.net_conf.specs.declared.refusal.Refusal.{Refusal}
use Rattle.net_conf.specs.declared.refusal.Refusal.TheVariants.{Syntax, Memory}
use Rattle.sim_event.specs.Events.{IsAsNumber}
use Rattle.command_text.specs.Joined.{HasOne}
use Rattle.command_text.specs.Reading.{Reads, Makes}

-- a text of some value is read
pub reads_some : {X : Type 0} (IsIn : X → Type 0) (spelling : X → List ℕ) (text : List ℕ) (r : Option X) →
    Reads IsIn spelling text r → HasOne IsIn spelling text → IsSome r
reads_some IsIn spelling text (Some x) reads one = refl
reads_some IsIn spelling text None reads one = absurd (reads one.0 one.1 one.2)

-- what was read, at what it is
pub reads_at : {X S : Type 0} (IsIn : X → Type 0) (spelling : X → S) (text : S) (r : Option X) (x : X) → r ≡ Some x →
    Reads IsIn spelling text r → IsIn x × (text ≡ spelling x)
reads_at IsIn spelling text r x is h = subst (Reads IsIn spelling text) is h

pub none_at : {X : Type 0} (IsIn : X → Type 0) (spelling : X → List ℕ) (text : List ℕ) (r : Option X) → r ≡ None →
    Reads IsIn spelling text r → HasOne IsIn spelling text → ⊥
none_at IsIn spelling text r is h one = (subst (Reads IsIn spelling text) is h) one.0 one.1 one.2

-- the number that is read, by another name
pub spelled_as : (text : List ℕ) (m n : ℕ) → m ≡ n → IsAsNumber n × (text ≡ decimal n) → IsAsNumber m
    × (text ≡ decimal m)
spelled_as text m n e h = subst (λ k. IsAsNumber k × (text ≡ decimal k)) (sym e) h

pub some_if : {X : Type 0} (r : Option X) (P : Type 0) (x : X) → SomeIff r P x → P → IsSome r
some_if (Some y) P x h p = refl
some_if None P x h p = absurd (h p)

-- a fault of syntax, handed on
at_fault : {X S : Type 0} (IsIn : X → Type 0) (costs : X → Bool) (spelling : X → S) (text : S) (r : Result X Refusal) →
    IsErrAnd r (λ e. e ≡ Syntax) → ((x : X) → IsIn x → text ≡ spelling x → ⊥) → Makes IsIn costs spelling text r
at_fault IsIn costs spelling text (Err e) h none = subst (λ e. Makes IsIn costs spelling text (Err e)) (sym h) none
at_fault IsIn costs spelling text (Ok x) h none = absurd h

fault_of : {X : Type 0} (o : Option X) (e : Refusal) → o ≡ None → Err e ≡ ok_or o Syntax → e ≡ Syntax
fault_of None e n is = cc
fault_of (Some x) e n is = cc

same_fault : {X : Type 0} (r : Result X Refusal) (e f : Refusal) → e ≡ f → IsErrAnd r (λ d. d ≡ e) →
    IsErrAnd r (λ d. d ≡ f)
same_fault (Err d) e f is h = h ∙ is
same_fault (Ok x) e f is h = h

pub refused_so : {X Y S : Type 0} (IsIn : X → Type 0) (costs : X → Bool) (spelling : X → S) (text : S) (o : Option Y)
    (e : Refusal) (r : Result X Refusal) →
    o ≡ None → Err e ≡ ok_or o Syntax → IsErrAnd r (λ d. d ≡ e) → ((x : X) → IsIn x → text ≡ spelling x → ⊥) →
    Makes IsIn costs spelling text r
refused_so IsIn costs spelling text o e r n is h none =
    at_fault IsIn costs spelling text r (same_fault r e Syntax (fault_of o e n is) h) none

-- a refusal of a part, handed on by the whole
handed : {X Y S U : Type 0} (IsIn : X → Type 0) (costs : X → Bool) (spelling : X → S) (text : S) (IsPart : Y →
    Type 0) (part_costs : Y → Bool) (wording : Y → U) (words : U) (e : Refusal) →
    Makes IsPart part_costs wording words (Err e) →
    ((x : X) → IsIn x → text ≡ spelling x → (y : Y) × IsPart y × (words ≡ wording y)) →
    ((y : Y) → IsPart y → part_costs y ≡ true → words ≡ wording y → (x : X) × IsIn x × (costs x ≡ true)
    × (text ≡ spelling x)) → Makes IsIn costs spelling text (Err e)
handed IsIn costs spelling text IsPart part_costs wording words Syntax made needs gives = λ x hx s. let part =
    needs x hx s in made part.0 part.1 part.2
handed IsIn costs spelling text IsPart part_costs wording words Memory made needs gives =
    gives made.0 made.1 made.2 made.3
handed IsIn costs spelling text IsPart part_costs wording words e made needs gives = absurd made

pub handed_on : {X Y S U : Type 0} (IsIn : X → Type 0) (costs : X → Bool) (spelling : X → S) (text : S) (IsPart : Y →
    Type 0) (part_costs : Y → Bool) (wording : Y → U) (words : U) (e : Refusal) (r : Result X Refusal) →
    Makes IsPart part_costs wording words (Err e) → IsErrAnd r (λ d. d ≡ e) →
    ((x : X) → IsIn x → text ≡ spelling x → (y : Y) × IsPart y × (words ≡ wording y)) →
    ((y : Y) → IsPart y → part_costs y ≡ true → words ≡ wording y → (x : X) × IsIn x × (costs x ≡ true)
    × (text ≡ spelling x)) → Makes IsIn costs spelling text r
handed_on IsIn costs spelling text IsPart part_costs wording words e (Err d) made h needs gives =
    subst (λ e. Makes IsIn costs spelling text (Err e)) (sym h)
    (handed IsIn costs spelling text IsPart part_costs wording words e made needs gives)
handed_on IsIn costs spelling text IsPart part_costs wording words e (Ok x) made h needs gives = absurd h

pub at_none : {X : Type 0} (P : Type 0) (o : Option X) → o ≡ None → IfNone o P → P
at_none P o is h = subst (λ o. IfNone o P) is h

pub at_some : {X : Type 0} (P : X → Type 0) (o : Option X) (x : X) → o ≡ Some x → IfSome o P → P x
at_some P o x is h = subst (λ o. IfSome o P) is h

-- where nothing is read of some words, nothing is read of a text that needs them
pub unread : {X Y S U : Type 0} (IsIn : X → Type 0) (spelling : X → S) (text : S) (IsPart : Y → Type 0) (wording : Y →
    U) (words : U) (r : Option X) → r ≡ None →
    ((y : Y) → IsPart y → words ≡ wording y → ⊥) → ((x : X) → IsIn x → text ≡ spelling x → (y : Y) × IsPart y
    × (words ≡ wording y)) → Reads IsIn spelling text r
unread IsIn spelling text IsPart wording words r is none needs =
    subst (Reads IsIn spelling text) (sym is) (λ x h s. let part = needs x h s in none part.0 part.1 part.2)

pub unspelled : {X S : Type 0} (IsIn : X → Type 0) (spelling : X → S) (text : S) (r : Option X) → r ≡ None →
    ((x : X) → IsIn x → text ≡ spelling x → ⊥) → Reads IsIn spelling text r
unspelled IsIn spelling text r is none = subst (Reads IsIn spelling text) (sym is) none

pub when_none : {X : Type 0} (P : Type 0) (o : Option X) → o ≡ None → P → IfNone o P
when_none P o is h = subst (λ o. IfNone o P) (sym is) h
