-- Messages (RFC 4271, 3.1 and 4.3). One message carries one prefix (own).
use Rattle.net_prefix.specs.Prefix.{Prefix}
use Rattle.session_queue.specs.declared.message.Message.{Message}
use Rattle.session_queue.specs.declared.message.Message.TheVariants.{Update, Withdraw}
use Rattle.session_queue.specs.declared.message.MessageKind.{MessageKind}
use Rattle.session_queue.specs.declared.message.MessageKind.TheVariants.{Update as AnUpdate, Withdraw as AWithdrawal}
use Rattle.session_queue.specs.declared.view.View.{View}
use Rattle.session_queue.specs.declared.view.View.TheVariants.{Update as ViewOfUpdate, Withdraw as ViewOfWithdrawal}

-- the prefix that the message speaks of
abbrev pub prefix_of : Message → Prefix
prefix_of (Update p attr) = p
prefix_of (Withdraw p) = p

abbrev pub kind_of : Message → MessageKind
kind_of (Update p attr) = AnUpdate
kind_of (Withdraw p) = AWithdrawal

-- the message that is borrowed
abbrev pub message_of : View → Message
message_of (ViewOfUpdate p attr) = Update p attr.now
message_of (ViewOfWithdrawal p) = Withdraw p
