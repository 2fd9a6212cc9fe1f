use Rattle.std.proofs.Common.{◌≡◌, ℕ, List, ◌++◌, codes, Option, refl, sym, ap, ◌∙◌}
use Rattle.route_policy.specs.declared.rule.Settings.{Settings}
use Rattle.command_text.specs.Words.{setting_words, settings_words}
use Rattle.reply_text.specs.Pieces.{writes_same, writes_cut, writes_next}
use Rattle.log_text.specs.Rules.{spaced}
use Rattle.log_text.proofs.Spaces.{spaced_four}
use Rattle.log_text.proofs.rule.write_settings.Goals as goal

-- a setting, a space before it
abbrev setting : List ℕ → Option ℕ → List ℕ
setting name value = spaced (setting_words name value)

-- the text of the settings, by its four pieces
pieces : (s : Settings) (times : Option ℕ) → times ≡ s.prepend
    → spaced (settings_words s) ≡ setting (codes "pref=") s.pref
    ++ (setting (codes "med=") s.med ++ (setting (codes "prepend=") times ++ setting (codes "add=") s.add))
pieces s times same =
    spaced_four (setting_words (codes "pref=") s.pref) (setting_words (codes "med=") s.med)
    (setting_words (codes "prepend=") s.prepend) (setting_words (codes "add=") s.add)
    ∙ ap (λ n. setting (codes "pref=") s.pref
    ++ (setting (codes "med=") s.med ++ (setting (codes "prepend=") n ++ setting (codes "add=") s.add))) (sym same)

pub returns-in_err-write_setting : goal.returns-in_err-write_setting
returns-in_err-write_setting g c =
    let s = c.args.settings in
    let p = setting (codes "pref=") s.pref in
    let m = setting (codes "med=") s.med in
    let n = setting (codes "prepend=") s.prepend in
    let a = setting (codes "add=") s.add in
    let r = c.from_residual.result in
    writes_same c.args.output.now c.write_setting.new.output (p ++ (m ++ (n ++ a))) _ r (pieces s s.prepend refl)
    (writes_cut c.args.output.now c.write_setting.new.output p (m ++ (n ++ a)) r c.from_residual.ensures.0
    c.in_err-write_setting.ensures)

pub returns-in_err-write_setting-2 : goal.returns-in_err-write_setting-2
returns-in_err-write_setting-2 g c =
    let s = c.args.settings in
    let p = setting (codes "pref=") s.pref in
    let m = setting (codes "med=") s.med in
    let n = setting (codes "prepend=") s.prepend in
    let a = setting (codes "add=") s.add in
    let r = c.from_residual-in_err-write_setting-2.result in
    writes_same c.args.output.now c.write_setting-2.new.output (p ++ (m ++ (n ++ a))) _ r (pieces s s.prepend refl)
    (writes_next c.args.output.now c.write_setting.new.output c.write_setting-2.new.output p
    (m ++ (n ++ a)) r c.in_ok-write_setting.ensures
    (writes_cut c.write_setting.new.output c.write_setting-2.new.output m
    (n ++ a) r c.from_residual-in_err-write_setting-2.ensures.0 c.in_err-write_setting-2.ensures))

pub returns-in_err-write_setting-3 : goal.returns-in_err-write_setting-3
returns-in_err-write_setting-3 g c =
    let s = c.args.settings in
    let times = c.count_of.result in
    let p = setting (codes "pref=") s.pref in
    let m = setting (codes "med=") s.med in
    let n = setting (codes "prepend=") times in
    let a = setting (codes "add=") s.add in
    let r = c.from_residual-in_err-write_setting-3.result in
    writes_same c.args.output.now c.write_setting-3.new.output (p ++ (m ++ (n ++ a))) _ r
    (pieces s times c.count_of.ensures)
    (writes_next c.args.output.now c.write_setting.new.output c.write_setting-3.new.output p
    (m ++ (n ++ a)) r c.in_ok-write_setting.ensures
    (writes_next c.write_setting.new.output c.write_setting-2.new.output c.write_setting-3.new.output m
    (n ++ a) r c.in_ok-write_setting-2.ensures
    (writes_cut c.write_setting-2.new.output c.write_setting-3.new.output n a r
    c.from_residual-in_err-write_setting-3.ensures.0 c.in_err-write_setting-3.ensures)))

pub returns : goal.returns
returns g c =
    let s = c.args.settings in
    let times = c.count_of.result in
    let p = setting (codes "pref=") s.pref in
    let m = setting (codes "med=") s.med in
    let n = setting (codes "prepend=") times in
    let a = setting (codes "add=") s.add in
    let r = c.write_setting-4.result in
    writes_same c.args.output.now c.write_setting-4.new.output (p ++ (m ++ (n ++ a))) _ r
    (pieces s times c.count_of.ensures)
    (writes_next c.args.output.now c.write_setting.new.output c.write_setting-4.new.output p
    (m ++ (n ++ a)) r c.in_ok-write_setting.ensures
    (writes_next c.write_setting.new.output c.write_setting-2.new.output c.write_setting-4.new.output m
    (n ++ a) r c.in_ok-write_setting-2.ensures
    (writes_next c.write_setting-2.new.output c.write_setting-3.new.output c.write_setting-4.new.output n a r
    c.in_ok-write_setting-3.ensures c.write_setting-4.ensures)))
