pub mod HeadBy
