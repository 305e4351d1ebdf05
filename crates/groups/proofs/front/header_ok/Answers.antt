-- `groups::front::header_ok` meets its contract: inside the section, and of either length.
use Rattle.groups.proofs.Headers.{head-past, head-short, head-long}
use Rattle.groups.proofs.front.header_ok.Goals as goal

pub returns-then-s-header : goal.returns-then-s-header
returns-then-s-header c = head-past _ c.blob_word-header.ensures c.if-s-header.true

pub returns-then-header-eq24 : goal.returns-then-header-eq24
returns-then-header-eq24 c = head-short _ c.blob_word-header.ensures c.if-s-header.false c.if-header-eq24.true

pub returns-else-header-eq24 : goal.returns-else-header-eq24
returns-else-header-eq24 c = head-long _ c.blob_word-header.ensures c.if-s-header.false c.if-header-eq24.false
