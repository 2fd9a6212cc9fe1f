-- Which attributes have to be admitted before messages can be sent without memory.
use Rattle.std.specs.Prelude.{◌≡◌, ◌⊎◌, Bool, true, false, List, [], ◌∷◌, ◌++◌}
use Rattle.std.specs.List.{All}
use Rattle.net_prefix.specs.declared.addr.Addr.{Addr}
use Rattle.path_attr.specs.declared.attr.Attr.{Attr}
use Rattle.session_queue.specs.declared.message.Message.{Message}
use Rattle.session_queue.specs.declared.message.Message.TheVariants.{Update, Withdraw}
use Rattle.session_queue.specs.Waiting.{IsAdmittedBy}
use Rattle.cell_engine.specs.CellEdits.{CellEdit, edit_sends}

-- the message has attributes
abbrev pub has_attributes : Message → Bool
has_attributes (Update p attr) = true
has_attributes (Withdraw p) = false

-- those of the message come to be admitted: they were, or they are the one more
abbrev pub Admits : Message → List Attr → List Attr → Type 0
Admits (Update p attr) old new = (IsAdmittedBy old (Update p attr) × (new ≡ old))
    ⊎ ((IsAdmittedBy old (Update p attr) → ⊥) × (new ≡ old ++ attr ∷ []))
Admits (Withdraw p) old new = new ≡ old

-- those of each message are among these
abbrev pub AreAdmitted : List Attr → List (Addr × Message) → Type 0
AreAdmitted attrs sends = All (λ e. IsAdmittedBy attrs e.1) sends

-- those of each message that is sent for one of the edited cells
abbrev pub AreAllAdmitted : List Attr → List CellEdit → Type 0
AreAllAdmitted attrs xs = All (λ x. AreAdmitted attrs (edit_sends x)) xs
