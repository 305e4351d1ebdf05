-- `naming::name_ok` meets its contract: an offset past both sections does not pass, and another goes by its rule in the one that holds it.
use mathlib.Core.Path.{refl, sym, ap, ◌∙◌}
use Rattle.pairs.specs.Lean.{name_word_over}
use Rattle.kindrows.specs.Codes.{role_of}
use Rattle.naming.proofs.NameRoles.{word-inside, word-outside}
use Rattle.naming.proofs.name_ok.Goals as goal

pub returns-then-section-from : goal.returns-then-section-from
returns-then-section-from c =
    word-outside c.args.base.now c.args.strings.now c.args.role c.read-off.result (sym c.requires) refl c.section_of-section.ensures
    c.place_in-from.ensures c.if-section-from.true
    ∙ ap (name_word_over c.args.base.now c.args.strings.now (role_of c.args.role)) c.read-off.ensures

pub returns : goal.returns
returns c =
    word-inside c.args.base.now c.args.strings.now c.args.role c.read-off.result (sym c.requires) refl c.section_of-section.ensures
    c.place_in-from.ensures c.if-section-from.false c.fits.ensures
    ∙ ap (name_word_over c.args.base.now c.args.strings.now (role_of c.args.role)) c.read-off.ensures
