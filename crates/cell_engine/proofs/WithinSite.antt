-- Where the site stays, what is sent over each session is made of that session itself.
use Rattle.std.proofs.Common.{◌≡◌, Bool, true, false, cond, List, [], ◌∷◌, Option, Some, None, refl, sym, ap, ◌∙◌}
use Rattle.std.specs.List.{AllByRecursion, filter_map, cons_option}
use Rattle.std.specs.Option.{option_and_then, option_map_or}
use Rattle.net_prefix.specs.Prefix.{Prefix}
use Rattle.path_attr.specs.declared.attr.Attr.{Attr}
use Rattle.net_conf.specs.declared.site.SiteConf.{SiteConf}
use Rattle.net_conf.specs.declared.site.SiteSession.{SiteSession}
use Rattle.net_conf.specs.Sites.{session_with}
use Rattle.route_select.specs.declared.candidate.Candidate.{Candidate}
use Rattle.reflect_out.specs.Advertising.{advert, advertised_over, is_from}
use Rattle.reflect_out.specs.Telling.{told_over}
use Rattle.reference_machine.specs.Advertising.{advert_of, change_of}
use Rattle.cell_engine.specs.Cells.{send_to, send_over, sends_of}
use Rattle.cell_engine.specs.Updates.{send_if_up}
use Rattle.cell_engine.specs.Within.{basis_of, told_by, send_within}
use Rattle.cell_engine.proofs.StandingsAfter.{ArePeersInOrder}
use Rattle.cell_engine.proofs.Unchanged.{picked, each_found}

module _ (site : SiteConf) (p : Prefix) where
  -- an advert to the peer of a session that is found by its peer
  told_is : (b : Candidate) (x : SiteSession) → session_with site x.peer ≡ Some x →
      advert site p b x.peer ≡ told_over site p b x
  unfolding advert
  told_is b x found = ap (λ o. cond (is_from x.peer b.source) None (option_and_then (advertised_over site p b) o)) found

  advert_is : (chosen : Option Candidate) (x : SiteSession) → session_with site x.peer ≡ Some x →
      advert_of true (Some site) x.peer p chosen ≡ told_by (basis_of site p chosen) x
  advert_is None x found = refl
  advert_is (Some b) x found = told_is b x found

  module _ (had has : Option Candidate) where
    send_is : (up : Bool) (x : SiteSession) → x.up ≡ up → session_with site x.peer ≡ Some x →
        send_if_up site site p had has x ≡ send_within p (basis_of site p had) (basis_of site p has) x
    send_is false x is found =
        ap (λ b. cond b (send_over site site p had has x) None) is
        ∙ sym (ap (λ b. cond b (send_to x.peer
        (change_of p (told_by (basis_of site p had) x) (told_by (basis_of site p has) x))) None) is)
    send_is true x is found =
        ap (λ b. cond b (send_over site site p had has x) None) is
        ∙ ap (λ o. send_to x.peer (change_of p (advert_of (option_map_or (λ y. y.up) o false) (Some site) x.peer p had)
        (advert_of x.up (Some site) x.peer p has))) found
        ∙ ap (λ b. send_to x.peer
        (change_of p (advert_of b (Some site) x.peer p had) (advert_of b (Some site) x.peer p has))) is
        ∙ (λ i. send_to x.peer (change_of p (advert_is had x found i) (advert_is has x found i)))
        ∙ sym (ap (λ b. cond b (send_to x.peer
        (change_of p (told_by (basis_of site p had) x) (told_by (basis_of site p has) x))) None) is)

    sends_are : (xs : List SiteSession) → AllByRecursion (λ x. session_with site x.peer ≡ Some x) xs →
        filter_map (send_if_up site site p had has) xs
        ≡ filter_map (send_within p (basis_of site p had) (basis_of site p has)) xs
    sends_are [] all = refl
    sends_are (x ∷ xs) all = λ i. cons_option (send_is x.up x refl all.0 i) (sends_are xs all.1 i)

    -- what is sent where the site stays
    pub sent_within : ArePeersInOrder site.sessions →
        filter_map (send_within p (basis_of site p had) (basis_of site p has)) site.sessions
        ≡ sends_of site site p had has
    sent_within h =
        sym (sends_are site.sessions (each_found site.sessions h))
        ∙ sym (picked (send_over site site p had has) (λ x. x.up) site.sessions)
